use Rattle.std.proofs.Common.{◌≡◌, ◌+◌, ◌<◌, ◌≤◌, ◌^◌, ◌∙◌, ap, sym, subst, refl, arith, ℕ, List, take, length, get_or}
use Rattle.std.proofs.lemmas.Bool.Decides.{nat_tests}
use Rattle.std.proofs.lemmas.List.{length-take}
use Rattle.std.proofs.lemmas.List.Elements.{All-from_get_or}
use Rattle.byte_numbers.specs.Numbers.{little_endian}
use Rattle.byte_numbers.specs.NumberLaws.{low_bytes, AreBytes-little_endian}
use Rattle.paged_memory.specs.PageMap.{put_bytes}
use Rattle.paged_memory.specs.Seen.{seen, seen_from}
use Rattle.paged_memory.proofs.Writing.{put_all, whole_written, whole_by, allowed_each, on_either}
use Rattle.paged_memory.proofs.writes.put_in_frame.Goals as goal

pub returns-clause-done : goal.returns-clause-done
returns-clause-done c = λ done.
    let eight : c.args.width ≤ 8 = grind (arith, nat_tests) in
    let part : List ℕ = take c.from.result c.to_le_bytes-bytes.result in
    let is : part ≡ little_endian c.args.width c.args.value =
    ap (λ (k : ℕ). take k c.to_le_bytes-bytes.result) c.from.ensures ∙ ap (take c.args.width) c.to_le_bytes-bytes.ensures ∙ low_bytes c.args.width c.args.value eight in
    let room : c.args.addr + length part ≤ 2 ^ 32 = omega (arith, c.requires.page, c.from.ensures, length-take c.from.result c.to_le_bytes-bytes.result) in
    ap (seen_from 0 c.args.held.now.rights) (c.write_in_frame.ensures.done done)
    ∙ put_all part c.args.held.now.rights c.args.held.now.bytes c.args.addr room c.requires.whole.addresses
    ∙ ap (put_bytes (seen c.args.held.now) c.args.addr) is

pub returns-clause-whole : goal.returns-clause-whole
returns-clause-whole c =
    let eight : c.args.width ≤ 8 = grind (arith, nat_tests) in
    let part : List ℕ = take c.from.result c.to_le_bytes-bytes.result in
    let is : part ≡ little_endian c.args.width c.args.value =
    ap (λ (k : ℕ). take k c.to_le_bytes-bytes.result) c.from.ensures ∙ ap (take c.args.width) c.to_le_bytes-bytes.ensures ∙ low_bytes c.args.width c.args.value eight in
    let room : c.args.addr + c.args.width ≤ 2 ^ 32 = omega (arith, c.requires.page) in
    let size : length part ≤ c.args.width = omega (arith, c.from.ensures, length-take c.from.result c.to_le_bytes-bytes.result) in
    on_either c.write_in_frame.result c.write_in_frame.ensures.done c.write_in_frame.ensures.same
    (λ e. whole_by _ c.args.held.now.rights c.write_in_frame.new.self refl e (whole_written c.args.held.now c.args.addr part c.requires.whole (omega (arith, room, size))
    (All-from_get_or (λ (b : ℕ). b < 256) part 0 (λ k _. subst (λ (l : List ℕ). get_or l k 0 < 256) (sym is) (AreBytes-little_endian c.args.width c.args.value k)))
    (λ a l h. allowed_each c.args.held.now c.args.addr c.args.width room c.requires.allowed a l (omega (arith, h, size)))))
    (λ e. whole_by c.args.held.now c.args.held.now.rights c.write_in_frame.new.self refl e c.requires.whole)
