use Rattle.std.proofs.Common.{◌++◌, ◌∷◌, [], ℕ, List, ap, ◌∙◌}
use Rattle.bd_text.proofs.GuidLemmas.{apart-of, same_fields}
use Rattle.bd_text.proofs.guid.Fields.parse.Goals as goal

pub returns-in_err-low-clause-only : goal.returns-in_err-low-clause-only
returns-in_err-low-clause-only c = λ f spelled.
    let a = apart-of f c.args.text.now spelled in
    absurd (c.in_err-low.ensures.only _ _ _ a.low_is a.text_is)

pub returns-in_err-middle-clause-only : goal.returns-in_err-middle-clause-only
returns-in_err-middle-clause-only c = λ f spelled.
    let a = apart-of f c.args.text.now spelled in
    let low = c.in_ok-low.ensures.only _ _ _ a.low_is a.text_is in
    absurd (c.in_err-middle.ensures.only _ _ _ a.middle_is low.1)

pub returns-in_err-high-clause-only : goal.returns-in_err-high-clause-only
returns-in_err-high-clause-only c = λ f spelled.
    let a = apart-of f c.args.text.now spelled in
    let low = c.in_ok-low.ensures.only _ _ _ a.low_is a.text_is in
    let middle = c.in_ok-middle.ensures.only _ _ _ a.middle_is low.1 in
    absurd (c.in_err-high.ensures.only _ _ _ a.high_is middle.1)

pub returns-in_err-clock-clause-only : goal.returns-in_err-clock-clause-only
returns-in_err-clock-clause-only c = λ f spelled.
    let a = apart-of f c.args.text.now spelled in
    let low = c.in_ok-low.ensures.only _ _ _ a.low_is a.text_is in
    let middle = c.in_ok-middle.ensures.only _ _ _ a.middle_is low.1 in
    let high = c.in_ok-high.ensures.only _ _ _ a.high_is middle.1 in
    absurd (c.in_err-clock.ensures.only _ _ _ a.clock_is high.1)

pub returns-in_err-node-clause-only : goal.returns-in_err-node-clause-only
returns-in_err-node-clause-only c = λ f spelled.
    let a = apart-of f c.args.text.now spelled in
    let low = c.in_ok-low.ensures.only _ _ _ a.low_is a.text_is in
    let middle = c.in_ok-middle.ensures.only _ _ _ a.middle_is low.1 in
    let high = c.in_ok-high.ensures.only _ _ _ a.high_is middle.1 in
    let clock = c.in_ok-clock.ensures.only _ _ _ a.clock_is high.1 in
    absurd (c.in_err-node.ensures.only f.node (rw clock.1 a.node_is))

pub returns : goal.returns
returns c =
    let low = c.in_ok-low.ensures.sound in
    let middle = c.in_ok-middle.ensures.sound in
    let high = c.in_ok-high.ensures.sound in
    let clock = c.in_ok-clock.ensures.sound in
    record {
      sound = record {
        parts = low.0 ∷ middle.0 ∷ high.0 ∷ clock.0 ∷ c.in_ok-clock.rest.now ∷ [];
        each = (low.1, (middle.1, (high.1, (clock.1, (c.in_ok-node.ensures.sound, tt)))));
        joined = low.2 ∙ ap (λ (t : List ℕ). low.0 ++ 45 ∷ t) (middle.2 ∙ ap (λ (t : List ℕ). middle.0 ++ 45 ∷ t) (high.2 ∙ ap (λ (t : List ℕ). high.0 ++ 45 ∷ t) clock.2));
      };
      only = λ f spelled.
          let a = apart-of f c.args.text.now spelled in
          let low_same = c.in_ok-low.ensures.only _ _ _ a.low_is a.text_is in
          let middle_same = c.in_ok-middle.ensures.only _ _ _ a.middle_is low_same.1 in
          let high_same = c.in_ok-high.ensures.only _ _ _ a.high_is middle_same.1 in
          let clock_same = c.in_ok-clock.ensures.only _ _ _ a.clock_is high_same.1 in
          let node_same = c.in_ok-node.ensures.only f.node (rw clock_same.1 a.node_is) in
          same_fields _ f low_same.0 middle_same.0 high_same.0 clock_same.0 node_same;
      bound = c.in_ok-node.ensures.bound;
    }
