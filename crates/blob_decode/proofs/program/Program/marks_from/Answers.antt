use Rattle.std.proofs.Common.{◌≡◌, ◌/◌, ◌%◌, ◌^◌, ◌<◌, ℕ, List, length, take, drop, ap, sym, subst, ◌∙◌}
use Rattle.byte_numbers.specs.Numbers.{little_number}
use Rattle.blob_decode.specs.Program.{Program, mask_bit, skip}
use Rattle.blob_decode.proofs.Windows.{own-mark, next-mark}
use Rattle.blob_decode.proofs.program.Program.marks_from.Goals as goal

pub returns-clause-own : goal.returns-clause-own
returns-clause-own c =
    let within : c.args.place < length c.self.inside.code.items = subst (λ (p : Program). c.args.place < length p.code) (sym c.self.view_is) c.requires in
    let number : c.window.result ≡ little_number (take 4 (drop (c.args.place / 8) c.self.inside.marks.items)) =
    c.window.ensures ∙ ap (λ (bytes : List ℕ). little_number (take 4 (drop (c.args.place / 8) bytes))) c.deref.ensures.value in
    own-mark c.self.inside.count c.self.inside.width c.self.inside.table.items c.self.inside.code.items c.self.inside.mask.items c.self.invariant.0 c.self.inside.marks.items c.self.invariant.1 c.args.place _ within (ap (λ (x : ℕ). x / 2 ^ (c.args.place % 8)) number)
    ∙ ap (λ (p : Program). mask_bit p c.args.place) c.self.view_is

pub returns-clause-next : goal.returns-clause-next
returns-clause-next c = λ n set.
    let within : c.args.place < length c.self.inside.code.items = subst (λ (p : Program). c.args.place < length p.code) (sym c.self.view_is) c.requires in
    let number : c.window.result ≡ little_number (take 4 (drop (c.args.place / 8) c.self.inside.marks.items)) =
    c.window.ensures ∙ ap (λ (bytes : List ℕ). little_number (take 4 (drop (c.args.place / 8) bytes))) c.deref.ensures.value in
    ap (λ (p : Program). skip p c.args.place) (sym c.self.view_is)
    ∙ next-mark c.self.inside.count c.self.inside.width c.self.inside.table.items c.self.inside.code.items c.self.inside.mask.items c.self.invariant.0 c.self.inside.marks.items c.self.invariant.1 c.args.place _ within (ap (λ (x : ℕ). x / 2 ^ (c.args.place % 8)) number) n set
