use Rattle.std.proofs.Common.{◌+◌, ◌-◌, ◌/◌, ◌%◌, ◌^◌, ◌<◌, ℕ, List, length, take, drop, ap, sym, subst, ◌∙◌, arith}
use Rattle.byte_numbers.specs.Numbers.{little_number}
use Rattle.blob_decode.specs.Program.{Program, mask_bit}
use Rattle.blob_decode.proofs.Windows.{LastSet-below, begun-window, begun-nowhere}
use Rattle.blob_decode.proofs.program.Program.begun_in_window.Goals as goal

pub returns-in-Some-clause-nearest : goal.returns-in-Some-clause-nearest
returns-in-Some-clause-nearest c =
    let few : c.in-Some.n < 25 = LastSet-below 25 _ c.in-Some.n (omega arith) c.in-Some.ensures in
    let within : c.args.place < length c.self.inside.code.items = subst (λ (p : Program). c.args.place < length p.code) (sym c.self.view_is) c.requires.within in
    let bits = ap (λ (x : ℕ). x / 2 ^ ((c.args.place - 25) % 8) % 2 ^ 25) (c.window.ensures ∙ ap (λ (bytes : List ℕ). little_number (take 4 (drop ((c.args.place - 25) / 8) bytes))) c.deref.ensures.value) in
    let found = begun-window c.self.inside.count c.self.inside.width c.self.inside.table.items c.self.inside.code.items c.self.inside.mask.items c.self.invariant.0 c.args.place c.requires.far within _ c.in-Some.n bits few c.in-Some.ensures in
    record {
      before = omega (arith, few, c.from.ensures, c.requires.far);
      near = omega (arith, c.from.ensures, c.requires.far);
      begins = ap (λ (k : ℕ). mask_bit c.args.self.now (c.args.place - 25 + k)) c.from.ensures
          ∙ ap (λ (p : Program). mask_bit p (c.args.place - 25 + c.in-Some.n)) (sym c.self.view_is)
          ∙ found.0;
      none = λ j after before. ap (λ (p : Program). mask_bit p j) (sym c.self.view_is) ∙ found.1 j (omega (arith, after, c.from.ensures)) before;
    }

pub returns-in-None-clause-none : goal.returns-in-None-clause-none
returns-in-None-clause-none c =
    let within : c.args.place < length c.self.inside.code.items = subst (λ (p : Program). c.args.place < length p.code) (sym c.self.view_is) c.requires.within in
    let bits = ap (λ (x : ℕ). x / 2 ^ ((c.args.place - 25) % 8) % 2 ^ 25) (c.window.ensures ∙ ap (λ (bytes : List ℕ). little_number (take 4 (drop ((c.args.place - 25) / 8) bytes))) c.deref.ensures.value) in
    λ j before near.
    ap (λ (p : Program). mask_bit p j) (sym c.self.view_is)
    ∙ begun-nowhere c.self.inside.count c.self.inside.width c.self.inside.table.items c.self.inside.code.items c.self.inside.mask.items c.self.invariant.0 c.args.place c.requires.far within _ bits c.in-None.ensures j before near
