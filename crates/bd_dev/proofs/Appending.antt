-- What a sink took over several writes.
use Rattle.std.proofs.Common.{◌≡◌, ℕ, ◌+◌, ◌-◌, ◌≤◌, List, [], ◌++◌, length, take, drop, Option, Some, None, refl, sym, ap, ◌∙◌, append_assoc, append-nil, length-append, length-drop, take-add, arith}
use Rattle.std.proofs.lemmas.List.{take_all, take-append-le}
use Rattle.std.proofs.Math.Seq.{take-append-add}
use Rattle.bd_dev.specs.Sink.{Appends, AppendsFront}

-- nothing appended changes nothing
pub Appends-nothing : (old new : Option (List ℕ)) → Appends old new [] → new ≡ old
Appends-nothing None new h = h
Appends-nothing (Some taken) new h = h ∙ ap (λ (t : List ℕ). Some t) (append-nil taken)

-- and what changes nothing appended nothing
pub Appends-same : (old : Option (List ℕ)) → Appends old old []
Appends-same None = refl
Appends-same (Some taken) = sym (ap (λ (t : List ℕ). Some t) (append-nil taken))

-- bytes appended after bytes are both appended
pub Appends-then : (old mid new : Option (List ℕ)) (xs ys : List ℕ) → Appends old mid xs → Appends mid new ys → Appends old new (xs ++ ys)
Appends-then None mid new xs ys h k = k ∙ rw h refl
Appends-then (Some taken) mid new xs ys h k = k ∙ rw h (ap (λ (t : List ℕ). Some t) (append_assoc taken xs ys))

-- a front appended after bytes is a front of both
pub AppendsFront-then : (old mid new : Option (List ℕ)) (xs ys : List ℕ) → Appends old mid xs → AppendsFront mid new ys → AppendsFront old new (xs ++ ys)
AppendsFront-then old mid new xs ys h k = record {
  count = length xs + k.count;
  within = rw length-append (omega (arith, k.within));
  front = rw take-append-add (Appends-then old mid new xs (take k.count ys) h k.front);
}

-- the next write of a loop that writes what is left
pub Appends-more : (old mid new : Option (List ℕ)) (bytes : List ℕ) (done n : ℕ) → done ≤ length bytes → Appends old mid (take done bytes) → Appends mid new (take n (take (length bytes - done) (drop done bytes))) → Appends old new (take (done + n) bytes)
Appends-more old mid new bytes done n le h k =
    let whole : take (length bytes - done) (drop done bytes) ≡ drop done bytes = take_all (length bytes - done) (drop done bytes) (omega (arith, length-drop done bytes)) in
    let next : Appends mid new (take n (drop done bytes)) = rw whole at k in
    rw take-add (Appends-then old mid new (take done bytes) (take n (drop done bytes)) h next)

-- a front of bytes is a front of the same with more after them
pub AppendsFront-longer : (old new : Option (List ℕ)) (xs ys : List ℕ) → AppendsFront old new xs → AppendsFront old new (xs ++ ys)
AppendsFront-longer old new xs ys h = record {
  count = h.count;
  within = rw length-append (omega (arith, h.within));
  front = let within : h.count ≤ length xs = h.within in rw take-append-le h.front;
}
