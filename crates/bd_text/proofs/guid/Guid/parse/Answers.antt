use Rattle.std.proofs.Common.{Some, ◌∙◌}
use Rattle.bd_text.proofs.GuidLemmas.{guid_fields-same, fields_at, written-fields_at}
use Rattle.bd_text.proofs.guid.Guid.parse.Goals as goal

pub returns-in_err-fields-clause-only : goal.returns-in_err-fields-clause-only
returns-in_err-fields-clause-only c = λ bytes spelled. absurd (c.in_err-fields.ensures.only (fields_at bytes) (rw written-fields_at spelled.fields))

pub returns : goal.returns
returns c = record {
  sound = record { sixteen = c.bytes.ensures.bytes; fields = rw c.bytes.ensures.fields c.in_ok-fields.ensures.sound };
  only = λ bytes spelled.
      let read = c.in_ok-fields.ensures.only (fields_at bytes) (rw written-fields_at spelled.fields) in
      let same = guid_fields-same c.bytes.result bytes c.bytes.ensures.bytes spelled.sixteen (c.bytes.ensures.fields ∙ rw read (written-fields_at bytes)) in
      λ i. Some (record { bytes = same i });
}
