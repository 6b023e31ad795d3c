-- Which of two slots is current, by their numbers.
use Rattle.std.specs.Prelude.{ℕ, Bool, true, false, if◌then◌else◌, nat_lt, Option, Some, None, option_map, unwrap_or}

-- whether the current slot is the second, and its number: none where neither is open
abbrev pub chosen : Option ℕ → Option ℕ → Option (Bool × ℕ)
chosen None None = None
chosen (Some a) None = Some (false, a)
chosen None (Some b) = Some (true, b)
chosen (Some a) (Some b) = if nat_lt a b then Some (true, b) else Some (false, a)

-- whether the current slot is the second
abbrev pub is_second : Option ℕ → Option ℕ → Bool
is_second a b = unwrap_or (option_map (λ (p : Bool × ℕ). p.0) (chosen a b)) false
