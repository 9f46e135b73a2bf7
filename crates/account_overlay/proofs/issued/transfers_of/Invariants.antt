use Rattle.std.proofs.Common.{◌≡◌, take}
use Rattle.account_overlay.proofs.issued.transfers_of.Given as goal

abbrev pub invariant-loop-transfer : goal.invariant-loop-transfer
invariant-loop-transfer l = l.list ≡ take l.transfer-index l.transfers
