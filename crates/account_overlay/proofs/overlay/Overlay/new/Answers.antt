use Rattle.std.proofs.Common.{option_map, ap, sym, ◌∙◌}
use Rattle.jam_accounts.specs.Accounts.{State}
use Rattle.account_context.specs.Context.{started}
use Rattle.account_overlay.proofs.Overlaid.{started_is}
use Rattle.account_overlay.proofs.overlay.Overlay.new.Goals as goal

pub returns : goal.returns
returns c =
    started_is c.base.inside.accounts c.args.service c.unwrap-account.result.now (sym c.get.ensures ∙ ap (option_map (λ r. r.now)) c.unwrap-account.ensures)
    c.in_ok-new.field-0 c.in_ok-new.ensures c.new.result c.new.ensures c.new-3.result c.first_candidate.result c.new-3.ensures.now c.new-3.ensures.saved c.args.entropy.now c.args.slot c.first_candidate.ensures.value
    ∙ ap (λ (s : State). started s.accounts c.args.service c.args.entropy.now c.args.slot) c.base.view_is
