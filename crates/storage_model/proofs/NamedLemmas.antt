-- The text names the system that the function finds, and no other.
use Rattle.std.proofs.Common.{◌≡◌, ℕ, List, ◌++◌, take, drop, codes, cond, Bool, true, false, Option, Some, None, refl, sym, ap, ◌∙◌, take-append-drop}
use Rattle.std.specs.Option.{option_and_then}
use Rattle.std.specs.Str.{bytes_eq}
use Rattle.std.proofs.lemmas.Option.{same_Some}
use Rattle.std.proofs.lemmas.Slice.Eq.{bytes_eq-Decides}
use Rattle.bd_text.specs.declared.guid.Guid.{Guid}
use Rattle.storage_model.specs.Named.{booted_by, guid_of, named_in}
use Rattle.storage_model.specs.Variables.{Names, value_of}
use Rattle.storage_model.proofs.GuidText.{is_spelled, spelled_is}

pub named_is : (text : List ℕ) (g : Guid) → Names text g → named_in text ≡ Some g
named_is text g names =
    ap (λ (v : Option (List ℕ)). option_and_then booted_by v) names.value ∙ spelled_is g.bytes names.spelling names.spells

by_test : (text value : List ℕ) (g : Guid) (b : Bool) → value_of text (codes "nos_bootcmd") ≡ Some value → bytes_eq (take 5 value) (codes "boot ") ≡ b → cond b (guid_of (drop 5 value)) None ≡ Some g → Names text g
by_test text value g true is test found = record {
  spelling = drop 5 value;
  value = is ∙ ap (λ (v : List ℕ). Some v) (sym (take-append-drop 5 value) ∙ ap (λ (front : List ℕ). front ++ drop 5 value) ((bytes_eq-Decides (take 5 value) (codes "boot ")).0 test));
  spells = is_spelled (drop 5 value) g found;
}
by_test text value g false is test found = absurd cc

by_value : (text : List ℕ) (g : Guid) (o : Option (List ℕ)) → value_of text (codes "nos_bootcmd") ≡ o → option_and_then booted_by o ≡ Some g → Names text g
by_value text g None is found = absurd cc
by_value text g (Some value) is found = by_test text value g (bytes_eq (take 5 value) (codes "boot ")) is refl found

pub is_named : (text : List ℕ) (g : Guid) → named_in text ≡ Some g → Names text g
is_named text g found = by_value text g (value_of text (codes "nos_bootcmd")) refl found

-- a text names one system
pub one_name : (text : List ℕ) (g h : Guid) → Names text g → Names text h → g ≡ h
one_name text g h one other = same_Some g h (sym (named_is text g one) ∙ named_is text h other)
