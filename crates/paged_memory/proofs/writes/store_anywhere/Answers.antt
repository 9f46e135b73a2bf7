use Rattle.std.proofs.Common.{◌≡◌, ◌+◌, ◌≤◌, ◌^◌, ◌∙◌, ap, sym, refl, arith, rules, ℕ, None, take}
use Rattle.std.proofs.lemmas.Bool.Decides.{nat_tests}
use Rattle.std.proofs.lemmas.List.{length-take}
use Rattle.page_rights.specs.declared.rights.Rights.TheVariants as may
use Rattle.paged_memory.specs.PageMap.{put_bytes}
use Rattle.paged_memory.specs.Seen.{seen}
use Rattle.byte_numbers.specs.NumberLaws.{low_bytes}
use Rattle.paged_memory.proofs.Writing.{no_wrap, allowed_each}
use Rattle.paged_memory.proofs.writes.store_anywhere.Goals as goal

pub put-requires-clause-room : goal.put-requires-clause-room
put-requires-clause-room c =
    let none : c.refusal.result ≡ None = search rules in
    let room : c.args.addr + c.args.width ≤ 2 ^ 32 = no_wrap c.args.held.now may.Write c.args.addr c.args.width c.requires.whole refl (omega arith) (sym c.refusal.ensures ∙ none) in
    omega (arith, room, c.from.ensures, length-take c.from.result c.to_le_bytes-bytes.result)

pub put-requires-clause-there : goal.put-requires-clause-there
put-requires-clause-there c a l h =
    let none : c.refusal.result ≡ None = search rules in
    let free = sym c.refusal.ensures ∙ none in
    let room : c.args.addr + c.args.width ≤ 2 ^ 32 = no_wrap c.args.held.now may.Write c.args.addr c.args.width c.requires.whole refl (omega arith) free in
    allowed_each c.args.held.now c.args.addr c.args.width room free a l (omega (arith, h, c.from.ensures, length-take c.from.result c.to_le_bytes-bytes.result))

pub returns-clause-ok : goal.returns-clause-ok
returns-clause-ok c =
    let eight : c.args.width ≤ 8 = grind (arith, nat_tests) in
    c.in_ok-put.ensures.ok
    ∙ ap (put_bytes (seen c.args.held.now) c.args.addr)
    (ap (λ (k : ℕ). take k c.to_le_bytes-bytes.result) c.from.ensures ∙ ap (take c.args.width) c.to_le_bytes-bytes.ensures ∙ low_bytes c.args.width c.args.value eight)
