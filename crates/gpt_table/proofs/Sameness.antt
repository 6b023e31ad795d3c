-- What `==` answers at tables, and at an option of one.
use Rattle.std.proofs.Common.{◌≡◌, ℕ, List, Bool, true, false, nat_eq, ◌&&◌, Option, Some, None, IsTrue, refl, ap}
use Rattle.std.specs.Option.{option_eq}
use Rattle.std.proofs.lemmas.Bool.{eqb-true, eq-eqb}
use Rattle.gpt_copy.specs.declared.table.Entry.{Entry}
use Rattle.gpt_copy.specs.declared.table.Table.{Table}
use Rattle.gpt_copy.specs.contracts.table.EntryPartialEq.TheImpl as entries
use Rattle.gpt_copy.specs.contracts.table.TablePartialEq.TheImpl as tables
use lib.Pointwise.{pointwise, pointwise_decides}

-- the answer is true exactly where this holds
abbrev Tells : Bool → Type 0 → Type 0
Tells b P = (b ≡ true → P) × (P → b ≡ true)

and_true : (b c : Bool) → (b && c) ≡ true → (b ≡ true) × (c ≡ true)
and_true true c is = (refl, is)
and_true false c is = cc

tells_both : {P Q : Type 0} (b c : Bool) → Tells b P → Tells c Q → Tells (b && c) (P × Q)
tells_both b c first second = (
  λ is. let both = and_true b c is in (first.0 both.0, second.0 both.1),
  λ holds. λ i. (first.1 holds.0 i) && (second.1 holds.1 i),
)

numbers : (a b : ℕ) → Tells (nat_eq a b) (a ≡ b)
numbers a b = (eqb-true a b, eq-eqb a b)

lists : (a b : List ℕ) → Tells (pointwise nat_eq a b) (a ≡ b)
lists = pointwise_decides numbers

same_entries : (a b : Entry) → Tells (entries.eq-value.it a b) (a ≡ b)
same_entries a b =
    let fields = tells_both _ _ (lists a.kind.bytes b.kind.bytes) (tells_both _ _ (lists a.guid.bytes b.guid.bytes)
    (tells_both _ _ (numbers a.first b.first) (tells_both _ _ (numbers a.last b.last)
    (tells_both _ _ (numbers a.attributes b.attributes) (lists a.name b.name))))) in (
      λ is. let f = fields.0 is in λ i. record {
        kind = record { bytes = f.0 i };
        guid = record { bytes = f.1.0 i };
        first = f.1.1.0 i;
        last = f.1.1.1.0 i;
        attributes = f.1.1.1.1.0 i;
        name = f.1.1.1.1.1 i;
      },
      λ same. fields.1 (
        ap (λ (e : Entry). e.kind.bytes) same,
        (
          ap (λ (e : Entry). e.guid.bytes) same,
          (
            ap (λ (e : Entry). e.first) same,
            (ap (λ (e : Entry). e.last) same, (ap (λ (e : Entry). e.attributes) same, ap (λ (e : Entry). e.name) same)),
          ),
        ),
      ),
    )

same_tables : (a b : Table) → Tells (tables.eq-value.it a b) (a ≡ b)
same_tables a b =
    let fields = tells_both _ _ (lists a.disk.bytes b.disk.bytes) (tells_both _ _ (numbers a.first_usable b.first_usable)
    (tells_both _ _ (numbers a.last_usable b.last_usable) (pointwise_decides same_entries a.entries b.entries))) in (
      λ is. let f = fields.0 is in λ i. record {
        disk = record { bytes = f.0 i };
        first_usable = f.1.0 i;
        last_usable = f.1.1.0 i;
        entries = f.1.1.1 i;
      },
      λ same. fields.1 (
        ap (λ (t : Table). t.disk.bytes) same,
        (
          ap (λ (t : Table). t.first_usable) same,
          (ap (λ (t : Table). t.last_usable) same, ap (λ (t : Table). t.entries) same),
        ),
      ),
    )

pub is_same : (read : Option Table) (t : Table) → (IsTrue (option_eq tables.eq-value.it read (Some t)) → read ≡ Some t) × (read ≡ Some t → IsTrue (option_eq tables.eq-value.it read (Some t)))
is_same None t = (λ is. cc, λ is. cc)
is_same (Some r) t = (λ is. ap (λ (x : Table). Some x) ((same_tables r t).0 is), λ is. (same_tables r t).1 cc)
