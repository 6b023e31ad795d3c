-- The text of the trace: what was sent, a line each.
use Rattle.std.specs.Prelude.{ℕ, ◌+◌, ◌/◌, ◌%◌, nat_lt, if◌then◌else◌, List, [], ◌∷◌, codes}
use Rattle.std.specs.Fmt.{decimal}
use Rattle.std.specs.List.{concat, flat_map}
use Rattle.flow.specs.declared.sends.Sent.{Sent}

-- a digit from `0` to `f`
abbrev pub digit : ℕ → ℕ
digit value = if nat_lt value 10 then 0x30 + value else 0x57 + value

-- bytes, each as two digits
abbrev pub hex_text : List ℕ → List ℕ
hex_text bytes = flat_map (λ byte. digit (byte / 16) ∷ digit (byte % 16) ∷ []) bytes

-- the round, the time, the flow's label, the port and the bytes
abbrev pub line_of : Sent → List ℕ
line_of s = concat (
    decimal s.round ∷ codes " " ∷ decimal s.at ∷ codes " " ∷ s.label
    ∷ codes " -> " ∷ decimal s.port ∷ codes " " ∷ hex_text s.bytes ∷ codes "\n" ∷ [])

-- the whole text
unfoldable pub trace_text : List Sent → List ℕ
trace_text sends = flat_map line_of sends
