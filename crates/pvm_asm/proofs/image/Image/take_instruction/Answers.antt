use Rattle.std.proofs.Common.{arith, length, ◌≡◌, ◌++◌, ◌-◌, ap, ◌∙◌, length-append, ℕ, Bool, List}
use Rattle.pvm_asm.specs.Assembly.{instruction_bytes, unit_mask, with_unit}
use Rattle.pvm_asm.specs.Image.{Image}
use Rattle.pvm_asm.proofs.image.Image.take_instruction.Goals as goal

pub returns : goal.returns
returns c =
    let bytes : List ℕ = instruction_bytes c.args.labels.now c.len-place.result c.args.instruction.now in
    let pushed : c.push_instruction.new.out.items ≡ c.self.inside.code.items ++ bytes = c.in_ok-push_instruction.ensures in
    let size : length bytes ≡ c.len.result - c.len-place.result = omega (arith, ap length pushed, length-append c.self.inside.code.items bytes) in
    let marked : c.push_unit_mask.new.mask.items ≡ c.self.inside.mask.items ++ unit_mask bytes = c.in_ok-push_unit_mask.ensures bytes size in
    let place : c.len-place.result ≡ length c.self.inside.code.items = omega arith in
    let image_with : List ℕ → List Bool → Image = λ code mask. record { meta = c.self.inside.meta.items; ro = c.self.inside.ro.items; rw = c.self.inside.rw.items; heap = c.self.inside.heap; stack = c.self.inside.stack; entries = c.self.inside.entries.items; blanks = c.self.inside.blanks; code = code; mask = mask } in
    ap (λ code. image_with code c.push_unit_mask.new.mask.items) pushed
    ∙ ap (λ mask. image_with (c.self.inside.code.items ++ bytes) mask) marked
    ∙ ap (λ (p : Image). with_unit p bytes) c.self.view_is
    ∙ ap (λ n. with_unit c.args.self.now (instruction_bytes c.args.labels.now n c.args.instruction.now)) (place ∙ ap (λ (p : Image). length p.code) c.self.view_is)
