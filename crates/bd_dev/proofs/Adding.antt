-- What a write in place of a file, or a push of a new one, adds.
use Rattle.std.proofs.Common.{◌≡◌, ◌≢◌, ℕ, ◌<◌, List, [], ◌∷◌, ◌++◌, length, set, get_or, Option, Some, None, position, option_map, refl, sym, ap, ◌∙◌, inl, inr}
use Rattle.std.specs.Option.{option_and_then}
use Rattle.std.proofs.lemmas.List.{map-append, length-map, get_or-map}
use Rattle.std.proofs.Math.Seq.{map-set_same}
use Rattle.bd_dev.specs.Volumes.{File, Volume, PutsFile, AddsFile, file_in, volume_of, volume_names}
use Rattle.bd_dev.proofs.Lookups.{named, find-nowhere, named_at, find-found, find-write, find-write_other, find-push, find-push_other, same_name, place_within, unnamed, bytes_eq-same, bytes_eq-other}

pub PutsFile-write : (fs : List File) (i : ℕ) (f : File) → position (named (λ g. g.name) f.name) fs ≡ Some i → PutsFile fs (set fs i f) f.name f.bytes
PutsFile-write fs i f h = record {
  put = ap (option_map (λ g. g.bytes)) (find-write (λ g. g.name) fs i f f.name h refl);
  others = λ q ne. ap (option_map (λ g. g.bytes)) (find-write_other (λ g. g.name) fs i f f.name q h refl ne);
}

pub PutsFile-push : (fs : List File) (f : File) → position (named (λ g. g.name) f.name) fs ≡ None → PutsFile fs (fs ++ f ∷ []) f.name f.bytes
PutsFile-push fs f h = record {
  put = ap (option_map (λ g. g.bytes)) (find-push (λ g. g.name) fs f f.name (find-nowhere (named (λ g. g.name) f.name) fs h) refl);
  others = λ q ne. ap (option_map (λ g. g.bytes)) (find-push_other (λ g. g.name) fs f f.name q refl ne);
}

volume_is : {A : Type 0} → (volumes : List Volume) (name : List ℕ) (v : Volume) (g : Volume → Option A) → volume_of volumes name ≡ Some v → option_and_then g (volume_of volumes name) ≡ g v
volume_is volumes name v g h = rw h refl

pub AddsFile-write : (vs : List Volume) (i : ℕ) (v w : Volume) (volume name bytes : List ℕ) → position (named (λ u. u.name) volume) vs ≡ Some i → v ≡ get_or vs i v → w.name ≡ v.name → PutsFile v.files w.files name bytes → AddsFile vs (set vs i w) volume name bytes
AddsFile-write vs i v w volume name bytes h is same puts =
    let v_name : v.name ≡ volume = ap (λ (u : Volume). u.name) is ∙ named_at (λ (u : Volume). u.name) vs i v volume h in
    let w_name : w.name ≡ volume = same ∙ v_name in
    let old : volume_of vs volume ≡ Some v = find-found Volume (λ u. u.name) vs i v volume h ∙ ap (λ (u : Volume). Some u) (sym is) in
    let new : volume_of (set vs i w) volume ≡ Some w = find-write (λ (u : Volume). u.name) vs i w volume h w_name in
    let within : i < length vs = place_within (named (λ u. u.name) volume) vs i v h in
    let names : volume_names (set vs i w) ≡ volume_names vs = map-set_same (λ (u : Volume). u.name) vs i w v (same ∙ ap (λ (u : Volume). u.name) is) in
    record {
      added = volume_is (set vs i w) volume w (λ u. file_in u.files name) new ∙ puts.put;
      others = λ q f ne. elim (same_name q volume) [
        | inl s ↦ rw s (volume_is (set vs i w) volume w (λ u. file_in u.files f) new ∙ puts.others f (λ t. ne (s, t)) ∙ sym (volume_is vs volume v (λ u. file_in u.files f) old))
        | inr other ↦ ap (option_and_then (λ u. file_in u.files f)) (find-write_other (λ u. u.name) vs i w volume q h w_name other)
      ];
      known = λ _. names;
      first = λ absent. absurd (absent (i, rw length-map within, get_or-map (λ (u : Volume). u.name) vs i v volume within ∙ ap (λ (u : Volume). u.name) (sym is) ∙ v_name));
    }

pub AddsFile-push : (vs : List Volume) (f : File) (volume : List ℕ) → position (named (λ u. u.name) volume) vs ≡ None → AddsFile vs (vs ++ record { name = volume; files = f ∷ [] } ∷ []) volume f.name f.bytes
AddsFile-push vs f volume h =
    let w : Volume = record { name = volume; files = f ∷ [] } in
    let old : volume_of vs volume ≡ None = find-nowhere (named (λ u. u.name) volume) vs h in
    let new : volume_of (vs ++ w ∷ []) volume ≡ Some w = find-push (λ (u : Volume). u.name) vs w volume old refl in
    let lone : file_in (f ∷ []) f.name ≡ Some f.bytes = rw (bytes_eq-same f.name f.name refl) refl in
    let other_file : (g : List ℕ) → g ≢ f.name → file_in (f ∷ []) g ≡ None = λ g ne. rw (bytes_eq-other f.name g (λ s. ne (sym s))) refl in
    record {
      added = volume_is (vs ++ w ∷ []) volume w (λ u. file_in u.files f.name) new ∙ lone;
      others = λ q g ne. elim (same_name q volume) [
        | inl s ↦ rw s (volume_is (vs ++ w ∷ []) volume w (λ u. file_in u.files g) new ∙ other_file g (λ t. ne (s, t)) ∙ sym (ap (option_and_then (λ u. file_in u.files g)) old))
        | inr other ↦ ap (option_and_then (λ u. file_in u.files g)) (find-push_other (λ u. u.name) vs w volume q refl other)
      ];
      known = λ there. let within : there.0 < length vs = rw length-map at there.1 in absurd (unnamed Volume (λ u. u.name) vs volume w h there.0 within (sym (get_or-map (λ (u : Volume). u.name) vs there.0 w volume within) ∙ there.2));
      first = λ absent. map-append (λ u. u.name) vs (w ∷ []);
    }
