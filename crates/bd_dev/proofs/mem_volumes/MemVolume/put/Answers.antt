use Rattle.std.proofs.Common.{◌≡◌, List, set, sym, ap, subst, ◌∙◌, ◌++◌, ◌∷◌, []}
use Rattle.bd_dev.specs.Volumes.{File, Volume, PutsFile}
use Rattle.bd_dev.proofs.Adding.{PutsFile-write, PutsFile-push}
use Rattle.bd_dev.proofs.Lookups.{place_of}
use Rattle.bd_dev.proofs.mem_volumes.MemVolume.put.Goals as goal

pub returns-in-Some-clause-put : goal.returns-in-Some-clause-put
returns-in-Some-clause-put c =
    let files : c.self.inside.files.items ≡ c.args.self.now.files = ap (λ (v : Volume). v.files) c.self.view_is in
    let name : c.as_slice.result.now ≡ c.args.file.name = c.as_slice.ensures ∙ ap (λ (f : File). f.name) c.file.view_is in
    let at_place = place_of File (λ f. f.name) _ _ _ _ _ c.in-Some.ensures c.deref.ensures.value name in
    subst (λ fs. PutsFile fs (set c.self.inside.files.items c.in-Some.place c.args.file) c.args.file.name c.args.file.bytes) files (PutsFile-write c.self.inside.files.items c.in-Some.place c.args.file at_place)

pub returns-in_ok-push-in-None-clause-put : goal.returns-in_ok-push-in-None-clause-put
returns-in_ok-push-in-None-clause-put c =
    let files : c.self.inside.files.items ≡ c.args.self.now.files = ap (λ (v : Volume). v.files) c.self.view_is in
    let name : c.as_slice.result.now ≡ c.args.file.name = c.as_slice.ensures ∙ ap (λ (f : File). f.name) c.file.view_is in
    let nowhere = place_of File (λ f. f.name) _ _ _ _ _ c.in-None.ensures (c.deref.ensures.value ∙ files) name in
    let pushed : c.push.new.self.items ≡ c.args.self.now.files ++ c.args.file ∷ [] = c.in_ok-push-in-None.ensures.items ∙ ap (λ (fs : List File). fs ++ c.args.file ∷ []) files in
    subst (λ fs. PutsFile c.args.self.now.files fs c.args.file.name c.args.file.bytes) (sym pushed) (PutsFile-push c.args.self.now.files c.args.file nowhere)
