use Rattle.std.proofs.Common.{Some, ap, sym, ◌∙◌, cond}
use Rattle.std.specs.Ordering.{nat_cmp}
use Rattle.std.specs.BTreeMap.{is_at}
use Rattle.std.specs.Map.{lookup}
use Rattle.account_overlay.proofs.Listed.{tabled, tabled-none, tabled-one, tabled-all}
use Rattle.account_overlay.proofs.others.footprints_of.Goals as goal

pub loop-id-preserved : goal.loop-id-preserved
loop-id-preserved c q =
    ap (tabled q c.next.new.self) (c.in_ok-insert.ensures.updates.0 q ∙ ap (λ f. cond (is_at (nat_cmp c.in-Some.id) q) (Some f) (lookup (is_at (nat_cmp q)) c.loop-id.footprints.entries)) c.footprint.ensures.value)
    ∙ tabled-one q c.loop-id.id-iterator c.next.new.self c.in-Some.id c.in-Some.account.now (lookup (is_at (nat_cmp q)) c.loop-id.footprints.entries) c.in-Some.ensures.steps
    ∙ c.loop-id.invariant q

pub returns : goal.returns
returns c q = sym (tabled-none q c.loop-id.id-iterator (lookup (is_at (nat_cmp q)) c.loop-id.footprints.entries) c.in-None.ensures.steps.0) ∙ c.loop-id.invariant q ∙ tabled-all q c.args.accounts.now
