use Rattle.std.proofs.Common.{arith, ◌≡◌, ◌/◌, ◌%◌, ◌^◌, ◌-◌, ◌≤◌, length, nat_lt, Some, false, slice_get, sym, ap, ◌∙◌, refl}
use Rattle.std.proofs.lemmas.Bool.{le-ltb}
use Rattle.std.specs.Option.{option_copied}
use Rattle.jam_codec.proofs.SpareBits.{Spare, Spare-last, Spare-whole}
use Rattle.jam_codec.proofs.spare.has_spare_bit.Goals as goal

pub returns-then-used-gt0 : goal.returns-then-used-gt0
returns-then-used-gt0 c =
    let last : slice_get c.args.bytes.now (length c.args.bytes.now - 1) ≡ Some c.in-Some.last.now = sym c.last.ensures.value ∙ ap (λ o. option_copied o) c.in-Some.is in
    let found : Spare c.args.bytes.now c.args.n (nat_lt 0 (c.in-Some.last.now / 2 ^ (c.args.n % 8))) =
    Spare-last c.args.bytes.now c.args.n c.in-Some.last.now (λ k. omega (arith, c.type_inv.bytes k)) c.requires last c.if-used-gt0.true in
    record { spare = found.spare; packed = found.clean }

pub returns-else-used-gt0 : goal.returns-else-used-gt0
returns-else-used-gt0 c =
    let found : Spare c.args.bytes.now c.args.n (nat_lt 0 (c.args.n % 8)) =
    Spare-whole c.args.bytes.now c.args.n (nat_lt 0 (c.args.n % 8)) (λ k. omega (arith, c.type_inv.bytes k)) c.requires (omega arith) (le-ltb 0 (c.args.n % 8) c.if-used-gt0.false) in
    record { spare = found.spare; packed = found.clean }

pub returns-in-None : goal.returns-in-None
returns-in-None c =
    let empty : length c.args.bytes.now ≤ 0 = c.in-None.ensures.item.3 in
    let found : Spare c.args.bytes.now c.args.n false =
    Spare-whole c.args.bytes.now c.args.n false (λ k. omega (arith, c.type_inv.bytes k)) c.requires (omega (arith, c.requires)) refl in
    record { spare = found.spare; packed = found.clean }
