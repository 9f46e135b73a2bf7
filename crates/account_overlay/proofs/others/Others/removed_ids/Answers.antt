use Rattle.std.proofs.Common.{◌≡◌, not, ℕ, Bool, true, false, ◌∙◌}
use Rattle.std.specs.FinMap as fin
use Rattle.account_overlay.proofs.Added.{missing_is}
use Rattle.account_overlay.proofs.Listed.{listed, listed_more, listed_past, listed_all}
use Rattle.account_overlay.proofs.others.Others.removed_ids.Goals as goal

pub loop-id-preserved-in-Continue-1 : goal.loop-id-preserved-in-Continue-1
loop-id-preserved-in-Continue-1 c =
    let absent : ℕ → Bool = λ id. not (fin.contains_key c.args.self.now.now id) in
    let here : absent c.in-Some.id ≡ true = missing_is c.get.result (fin.get c.args.self.now.now c.in-Some.id) c.is_none.result c.get.ensures c.is_none.ensures ∙ c.if-is_none.true in
    listed_more absent c.loop-id.id-iterator c.next.new.self c.in-Some.id c.in-Some._account.now c.in-Some.ensures.steps c.loop-id.removed (listed absent (fin.entries c.args.self.now.base)) c.push.new.self c.in_ok-push.ensures.ok here c.loop-id.invariant

pub loop-id-preserved : goal.loop-id-preserved
loop-id-preserved c =
    let absent : ℕ → Bool = λ id. not (fin.contains_key c.args.self.now.now id) in
    let here : absent c.in-Some.id ≡ false = missing_is c.get.result (fin.get c.args.self.now.now c.in-Some.id) c.is_none.result c.get.ensures c.is_none.ensures ∙ c.if-is_none.false in
    listed_past absent c.loop-id.id-iterator c.next.new.self c.in-Some.id c.in-Some._account.now c.in-Some.ensures.steps c.loop-id.removed (listed absent (fin.entries c.args.self.now.base)) here c.loop-id.invariant

pub returns : goal.returns
returns c = listed_all (λ id. not (fin.contains_key c.args.self.now.now id)) c.loop-id.id-iterator c.args.self.now.base c.loop-id.removed c.in-None.ensures.steps.0 c.loop-id.invariant
