use Rattle.std.proofs.Common.{◌≡◌, ℕ, List, ap, subst, ◌∙◌}
use Rattle.pvm_isa.specs.Arguments.{IsWindow, arguments}
use Rattle.pvm_isa.specs.declared.arguments.Args.{Args}
use Rattle.pvm_isa.specs.declared.form.Form.TheVariants.{F10}
use Rattle.blob_decode.specs.Program.{skip}
use Rattle.blob_decode.proofs.program.Program.place_at.Goals as goal

pub returns : goal.returns
returns c =
    let window : IsWindow c.args.self.now.code c.args.place c.code_window-bytes.result =
    subst (λ (l : List ℕ). IsWindow l c.args.place c.code_window-bytes.result) c.code.ensures.value c.code_window-bytes.ensures in
    let read : c.two_registers_and_immediate_in-args.result ≡ arguments F10 c.args.self.now.code c.args.place (skip c.args.self.now c.args.place) =
    c.two_registers_and_immediate_in-args.ensures.arguments c.args.self.now.code c.args.place window ∙ ap (arguments F10 c.args.self.now.code c.args.place) c.skip-skip.ensures.value in
    record {
      op = c.op_at.ensures;
      first = ap {A = Args} (λ r. r.a) read;
      second = ap {A = Args} (λ r. r.b) read;
      immediate =
          c.short_immediate_in.ensures c.args.self.now.code c.args.place window
          ∙ ap {A = Args} (λ r. r.x) (ap (arguments F10 c.args.self.now.code c.args.place) c.skip-skip.ensures.value);
      low = c.two_registers_and_immediate_in-args.ensures.a;
      high = c.two_registers_and_immediate_in-args.ensures.b;
      skip = c.skip-skip.ensures.value;
      short = c.skip-skip.ensures.most;
      starts = c.begins_block.ensures;
    }
