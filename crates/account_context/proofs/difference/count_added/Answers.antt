use Rattle.std.proofs.Common.{◌≡◌, not, ℕ, Bool, true, false, ◌∙◌}
use Rattle.std.specs.FinMap as fin
use Rattle.account_context.proofs.Differences.{missing_is, kept_count, counted_more, counted_past, few_more, few_past, counted_none, few_none, counted_all}
use Rattle.account_context.proofs.difference.count_added.Goals as goal

pub loop-id-init : goal.loop-id-init
loop-id-init c =
    let all = c.into_iter-id-iterator.ensures.into_iter_gives ∙ c.entries-id-items.ensures in
    record {
      sum = counted_none (λ id. not (fin.contains_key c.args.base.now id)) c.into_iter-id-iterator.result c.args.now.now all;
      few = few_none c.into_iter-id-iterator.result c.args.now.now all;
    }

pub loop-id-preserved-then-is_none : goal.loop-id-preserved-then-is_none
loop-id-preserved-then-is_none c =
    let missing : ℕ → Bool = λ id. not (fin.contains_key c.args.base.now id) in
    let here : missing c.in-Some.id ≡ true = missing_is c.get.result (fin.get c.args.base.now c.in-Some.id) c.is_none.result c.get.ensures c.is_none.ensures ∙ c.if-is_none.true in
    record {
      sum = counted_more missing c.loop-id.id-iterator c.next.new.self c.in-Some.id c.in-Some._account.now c.in-Some.ensures.steps c.loop-id.count (kept_count missing (fin.entries c.args.now.now)) here c.loop-id.invariant.sum;
      few = few_more missing c.loop-id.id-iterator c.next.new.self c.in-Some.id c.in-Some._account.now c.in-Some.ensures.steps c.loop-id.count (fin.len c.args.now.now) c.loop-id.invariant.few;
    }

pub loop-id-preserved : goal.loop-id-preserved
loop-id-preserved c =
    let missing : ℕ → Bool = λ id. not (fin.contains_key c.args.base.now id) in
    let here : missing c.in-Some.id ≡ false = missing_is c.get.result (fin.get c.args.base.now c.in-Some.id) c.is_none.result c.get.ensures c.is_none.ensures ∙ c.if-is_none.false in
    record {
      sum = counted_past missing c.loop-id.id-iterator c.next.new.self c.in-Some.id c.in-Some._account.now c.in-Some.ensures.steps c.loop-id.count (kept_count missing (fin.entries c.args.now.now)) here c.loop-id.invariant.sum;
      few = few_past missing c.loop-id.id-iterator c.next.new.self c.in-Some.id c.in-Some._account.now c.in-Some.ensures.steps c.loop-id.count (fin.len c.args.now.now) c.loop-id.invariant.few;
    }

pub returns-clause-count : goal.returns-clause-count
returns-clause-count c = counted_all (λ id. not (fin.contains_key c.args.base.now id)) c.loop-id.id-iterator c.args.now.now c.loop-id.count c.in-None.ensures.steps.0 c.loop-id.invariant.sum
