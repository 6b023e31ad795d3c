-- The spots of the rows that are for one flow.
use Rattle.std.proofs.Common.{◌≡◌, ℕ, ◌+◌, Bool, true, false, List, [], ◌∷◌, ◌++◌, map, take, get_or, Option, Some, refl, sym, ap, ◌∙◌, append-nil}
use Rattle.std.specs.Prelude.{slice_get, unwrap_or}
use Rattle.std.specs.List.{filter}
use Rattle.std.specs.Option.{option_map}
use Rattle.std.proofs.lemmas.List.{map-append, take_more}
use Rattle.std.proofs.lemmas.List.Elements.{filter-append}
use Rattle.std.proofs.lemmas.Option.{slice_get_within, get_or_from_slice_get}
use Rattle.arrival_player.specs.Spots.{timed_of}
use Rattle.arrival_player.specs.declared.feeds.Spot.{Spot}
use Rattle.bd_dev.specs.Rows.{Row, timed_of as timed_row}
use Rattle.bd_dev.specs.declared.net.Arrival.TheVariants.{End}
use Rattle.list_net.specs.Rows.{arrival_at}

-- one row more, which is not for it
pub filter-pass : {X : Type 0} (p : X → Bool) (xs : List X) (i : ℕ) (x : X) → slice_get xs i ≡ Some x → p x ≡ false → filter p (take (i + 1) xs) ≡ filter p (take i xs)
filter-pass {X} p xs i x here fails =
    let lt = slice_get_within xs i x here in
    let is : get_or xs i x ≡ x = get_or_from_slice_get xs i x x here in
    let last : filter p (x ∷ []) ≡ [] = rw fails refl in
    ap (filter p) (take_more xs i x lt ∙ ap (λ y. take i xs ++ y ∷ []) is) ∙ (filter-append p (take i xs) (x ∷ []) ∙ (ap (λ ys. filter p (take i xs) ++ ys) last ∙ append-nil (filter p (take i xs))))

-- one row more, which is for it
filter-take : {X : Type 0} (p : X → Bool) (xs : List X) (i : ℕ) (x : X) → slice_get xs i ≡ Some x → p x ≡ true → filter p (take (i + 1) xs) ≡ filter p (take i xs) ++ x ∷ []
filter-take {X} p xs i x here passes =
    let lt = slice_get_within xs i x here in
    let is : get_or xs i x ≡ x = get_or_from_slice_get xs i x x here in
    let last : filter p (x ∷ []) ≡ x ∷ [] = rw passes refl in
    ap (filter p) (take_more xs i x lt ∙ ap (λ y. take i xs ++ y ∷ []) is) ∙ (filter-append p (take i xs) (x ∷ []) ∙ ap (λ ys. filter p (take i xs) ++ ys) last)

pub spots_more : (rows : List Row) (p : Row → Bool) (spots new : List Spot) (i : ℕ) (row : Row) → slice_get rows i ≡ Some row → p row ≡ true → new ≡ spots ++ record { at = row.at; feed = i; part = 0 } ∷ [] → map (timed_of (arrival_at rows)) spots ≡ map timed_row (filter p (take i rows)) → map (timed_of (arrival_at rows)) new ≡ map timed_row (filter p (take (i + 1) rows))
spots_more rows p spots new i row here passes pushed so_far =
    let f = timed_of (arrival_at rows) in
    let spot : Spot = record { at = row.at; feed = i; part = 0 } in
    let is : f spot ≡ timed_row row = ap (λ (o : Option Row). record { at = row.at; arrival = unwrap_or (option_map (λ (r : Row). r.arrival) o) End }) here in
    let kept = filter p (take i rows) in
    ap (map f) pushed ∙ (map-append f spots (spot ∷ []) ∙ (ap (λ xs. xs ++ f spot ∷ []) so_far ∙ (ap (λ x. map timed_row kept ++ x ∷ []) is
    ∙ sym (ap (map timed_row) (filter-take p rows i row here passes) ∙ map-append timed_row kept (row ∷ [])))))
