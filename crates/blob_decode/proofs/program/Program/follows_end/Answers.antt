use Rattle.std.proofs.Common.{◌≡◌, ap, sym, ◌∙◌, arith, ◌<◌, length, ℕ}
use Rattle.std.proofs.lemmas.List.{get_or_read}
use Rattle.blob_decode.specs.Program.{Program, ends_block}
use Rattle.pvm_isa.specs.Arguments.{code_byte}
use Rattle.blob_decode.specs.Kept.{IsNearest}
use Rattle.blob_decode.proofs.Starts.{ended-nearest, ended-none}
use Rattle.blob_decode.proofs.program.Program.follows_end.Goals as goal

pub returns-in-Some : goal.returns-in-Some
returns-in-Some c =
    let nearest : IsNearest c.args.self.now c.args.place c.in-Some.n = c.in-Some.ensures.nearest in
    let within : c.in-Some.n < length c.args.self.now.code = omega (arith, c.requires.within, nearest.before) in
    let same : c.self.inside.code.items ≡ c.args.self.now.code = ap (λ (p : Program). p.code) c.self.view_is in
    let inside : c.in-Some.n < length c.self.inside.code.items = omega (arith, within, ap (length {A = ℕ}) same) in
    let byte : c.index.result.now ≡ code_byte c.args.self.now.code c.in-Some.n = get_or_read c.self.inside.code.items c.in-Some.n c.index.result.now inside c.index.ensures 0 ∙ ap (λ p. code_byte p.code c.in-Some.n) c.self.view_is in
    c.ends_block.ensures ∙ ap ends_block byte ∙ sym (ended-nearest c.args.self.now c.args.place c.in-Some.n nearest within c.requires.begins)

pub returns-in-None : goal.returns-in-None
returns-in-None c = sym (ended-none c.args.self.now c.args.place c.in-None.ensures.none)
