use Rattle.std.proofs.Common.{arith, ◌-◌, ◌≡◌, ◌%◌, true, false, refl, sym, ap, ◌∙◌}
use Rattle.std.proofs.lemmas.Bool.{eq-eqb, ne_eqb}
use Rattle.pvm_isa.specs.Arguments.{arguments}
use Rattle.pvm_isa.specs.declared.arguments.Args.{Args}
use Rattle.pvm_isa.specs.declared.form.Form.TheVariants.{F10}
use Rattle.pvm_isa.specs.WindowLaws.{first-byte}
use Rattle.blob_decode.specs.Program.{mask_bit, op_at, skip}
use Rattle.blob_decode.proofs.KeptLaws.{op_at-begun, op_at-none}
use Rattle.blob_decode.proofs.program.Program.found.Goals.{then-marks-eq1, else-marks-eq1}
use Rattle.blob_decode.proofs.program.Program.found.Goals as goal

pub returns : goal.returns
returns c =
    let skips : skip c.args.self.now c.args.place ≡ c.next_set-ahead.result - 1 =
    c.marks_from-marks.ensures.next (c.next_set-ahead.result - 1) (c.next_set-ahead.ensures.first (c.next_set-ahead.result - 1) (omega (arith, c.next_set-ahead.ensures.some))) in
    let read : c.two_registers_and_immediate_in-args.result ≡ arguments F10 c.args.self.now.code c.args.place (skip c.args.self.now c.args.place) =
    c.two_registers_and_immediate_in-args.ensures.arguments c.args.self.now.code c.args.place c.requires.window ∙ ap (arguments F10 c.args.self.now.code c.args.place) (sym skips) in
    record {
      within = c.requires.within;
      here = refl;
      op = elim c.if-marks-eq1.branch [
        | then-marks-eq1 w ↦
            let begins : mask_bit c.args.self.now c.args.place ≡ true = sym c.marks_from-marks.ensures.own ∙ eq-eqb (c.marks_from-marks.result % 2) 1 w.if-marks-eq1.true in
            w.op-is ∙ w.op_or_trap-op.ensures
            ∙ op_at-begun c.args.self.now c.args.place (c.args.bytes % 256) c.requires.within begins (first-byte c.args.self.now.code c.args.place c.args.bytes c.requires.window)
        | else-marks-eq1 w ↦
            let none : mask_bit c.args.self.now c.args.place ≡ false = sym c.marks_from-marks.ensures.own ∙ ne_eqb (c.marks_from-marks.result % 2) 1 w.if-marks-eq1.false in
            w.op-is ∙ w.none_begins-op.ensures ∙ op_at-none c.args.self.now c.args.place none
      ];
      next = omega (arith, skips, c.next_set-ahead.ensures.some, c.from.ensures);
      first = ap {A = Args} (λ r. r.a) read;
      second = ap {A = Args} (λ r. r.b) read;
      immediate = ap {A = Args} (λ r. r.x) read;
      low = c.two_registers_and_immediate_in-args.ensures.a;
      high = c.two_registers_and_immediate_in-args.ensures.b;
      skip = sym skips;
      short = omega (arith, c.next_set-ahead.ensures.most);
      window = c.requires.window;
    }
