use Rattle.std.proofs.Common.{arith, ◌∙◌, ap, sym, append-nil, length, ◌++◌, List, ℕ, ◌<◌}
use Rattle.jam_codec.proofs.Spelled.{pushed_step, kept_step, packed-none, some_left, none_left}
use Rattle.jam_codec.proofs.writing.push_packed.Goals as goal

pub loop-left-preserved : goal.loop-left-preserved
loop-left-preserved c =
    let some : 0 < length c.loop-left.left.now = some_left c.loop-left.left.now c.is_empty.result c.is_empty.ensures c.loop-left-test.true in record {
      pushed = pushed_step c.args.out.now.items c.loop-left.out.items c.push.new.self.items c.args.bits.now c.loop-left.left.now c.split_at.result.0.now c.split_at.result.1.now c.min.result c.byte_of.result
          c.in_ok-push.ensures.items c.byte_of.ensures c.split_at.ensures.front c.split_at.ensures.back
          some (omega (arith, c.min.ensures)) (omega (arith, c.min.ensures)) (λ few. omega (arith, c.min.ensures)) c.loop-left.invariant.pushed;
      kept = kept_step c.args.out.now.items c.loop-left.out.items c.push.new.self.items c.byte_of.result c.in_ok-push.ensures.items c.loop-left.invariant.kept;
    }

pub returns-clause-ok : goal.returns-clause-ok
returns-clause-ok c =
    sym (append-nil c.loop-left.out.items)
    ∙ ap (λ (bytes : List ℕ). c.loop-left.out.items ++ bytes) (sym (packed-none c.loop-left.left.now (none_left c.loop-left.left.now c.is_empty.result c.is_empty.ensures c.loop-left-test.false)))
    ∙ c.loop-left.invariant.pushed
