use Rattle.std.proofs.Common.{◌≡◌, List, set, refl, sym, ap, subst, ◌∙◌, ◌++◌, ◌∷◌, []}
use Rattle.bd_dev.specs.Volumes.{File, Volume, MediaInMemory, PutsFile, AddsFile}
use Rattle.bd_dev.proofs.Adding.{AddsFile-write, AddsFile-push}
use Rattle.bd_dev.proofs.Lookups.{place_of}
use Rattle.bd_dev.proofs.mem_media.MemMedia.add.Goals as goal

pub returns-in_ok-put-in-Some-clause-added : goal.returns-in_ok-put-in-Some-clause-added
returns-in_ok-put-in-Some-clause-added c =
    let volumes : c.self.inside.volumes.items ≡ c.args.self.now.volumes = ap (λ (m : MediaInMemory). m.volumes) c.self.view_is in
    let at_place = place_of Volume (λ v. v.name) _ _ _ _ _ c.in-Some.ensures c.deref.ensures.value refl in
    let puts = subst (λ (f : File). PutsFile c.index_mut.result.now.files c.put.new.self.files f.name f.bytes) c.in_ok-file.ensures c.in_ok-put-in-Some.ensures.put in
    subst (λ vs. AddsFile vs (set c.self.inside.volumes.items c.in-Some.place c.put.new.self) c.args.volume.now c.args.name.now c.args.bytes.now) volumes
    (AddsFile-write c.self.inside.volumes.items c.in-Some.place c.index_mut.result.now c.put.new.self c.args.volume.now c.args.name.now c.args.bytes.now at_place c.index_mut.ensures.value c.in_ok-put-in-Some.ensures.named puts)

pub returns-in_ok-push-in-None-clause-added : goal.returns-in_ok-push-in-None-clause-added
returns-in_ok-push-in-None-clause-added c =
    let volumes : c.self.inside.volumes.items ≡ c.args.self.now.volumes = ap (λ (m : MediaInMemory). m.volumes) c.self.view_is in
    let nowhere = place_of Volume (λ v. v.name) _ _ _ _ _ c.in-None.ensures (c.deref.ensures.value ∙ volumes) refl in
    let file : File = record { name = c.args.name.now; bytes = c.args.bytes.now } in
    let added : Volume = record { name = c.args.volume.now; files = file ∷ [] } in
    let entry : c.in_ok-new-in-None.field-0 ≡ added = c.in_ok-new-in-None.ensures ∙ ap (λ (f : File). record { name = c.args.volume.now; files = f ∷ [] }) c.in_ok-file.ensures in
    let pushed : c.push.new.self.items ≡ c.args.self.now.volumes ++ added ∷ [] = c.in_ok-push-in-None.ensures.items ∙ ap (λ (vs : List Volume). vs ++ c.in_ok-new-in-None.field-0 ∷ []) volumes ∙ ap (λ (v : Volume). c.args.self.now.volumes ++ v ∷ []) entry in
    subst (λ vs. AddsFile c.args.self.now.volumes vs c.args.volume.now c.args.name.now c.args.bytes.now) (sym pushed) (AddsFile-push c.args.self.now.volumes file c.args.volume.now nowhere)
