use Rattle.std.proofs.Common.{◌≡◌, ◌++◌, ◌∷◌, [], codes, map, take}
use Rattle.bd_text.specs.Mac.{mac_text}
use Rattle.hex.specs.Hex.{encode_upper}
use Rattle.waterfall.specs.Leases.{dashed}
use Rattle.waterfall.proofs.folders.fronts.Given as goal

abbrev pub invariant-loop-size : goal.invariant-loop-size
invariant-loop-size l =
    l.fronts ≡ (map dashed (mac_text l.fn.mac.bytes) ++ codes "/") ∷ map (λ size. take size (encode_upper l.fn.address.bytes) ++ codes "/") (take l.size-index (8 ∷ 7 ∷ 6 ∷ 5 ∷ 4 ∷ 3 ∷ 2 ∷ 1 ∷ []))
