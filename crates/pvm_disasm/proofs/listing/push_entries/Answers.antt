use Rattle.std.proofs.Common.{◌++◌, map, sym, ◌∙◌, arith, string_bytes}
use Rattle.pvm_disasm.specs.Listing.{jump_line, lines_text}
use Rattle.pvm_disasm.proofs.Texts.{entries-more, entries-all}
use Rattle.pvm_disasm.proofs.listing.push_entries.Goals as goal

pub loop-k-preserved : goal.loop-k-preserved
loop-k-preserved c =
    entries-more (string_bytes c.loop-k.text) (string_bytes c.writeln.new.self) (string_bytes c.args.text.now ++ lines_text (map jump_line c.args.program.now.jumps)) c.args.program.now.jumps c.loop-k.k c.in-Some.place
    (sym c.jump_at.ensures ∙ c.in-Some.is) c.loop-k.invariant c.in_ok-writeln-in-Some.ensures.bytes

pub returns : goal.returns
returns c =
    entries-all (string_bytes c.loop-k.text) (string_bytes c.args.text.now ++ lines_text (map jump_line c.args.program.now.jumps)) c.args.program.now.jumps c.loop-k.k (omega arith) c.loop-k.invariant
