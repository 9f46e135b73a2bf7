use Rattle.std.proofs.Common.{arith, string_bytes}
use Rattle.pvm_disasm.proofs.Texts.{lead-listed, no-lead}
use Rattle.pvm_disasm.proofs.listing.push_lead.Goals as goal

pub returns-in-empty : goal.returns-in-empty
returns-in-empty c = no-lead (string_bytes c.args.text.now) c.args.bytes.now (omega arith)

pub returns-in_ok-writeln-in_default : goal.returns-in_ok-writeln-in_default
returns-in_ok-writeln-in_default c =
    lead-listed (string_bytes c.args.text.now) (string_bytes c.writeln.new.self) c.args.bytes.now (string_bytes c.in_ok-digits-in_default.digits) (omega arith) c.in_ok-digits-in_default.ensures c.in_ok-writeln-in_default.ensures.bytes
