use Rattle.std.proofs.Common.{None, ap}
use Rattle.std.specs.Cmp.Lexicographic.{nat_list_cmp_total}
use Rattle.std.specs.FinMap as fin
use Rattle.jam_accounts.specs.MapLaws.{bytes_same}
use Rattle.account_overlay.specs.Layers.{dropped, held}
use Rattle.account_overlay.proofs.Overs.{taken_on, untouched_on, untouched_there}
use Rattle.account_overlay.proofs.kept.preimages_after.Goals as goal

pub loop-place-preserved-then-place : goal.loop-place-preserved-then-place
loop-place-preserved-then-place c =
    let old = c.loop-place.places in
    let new = c.pop_last.new.self in
    let base = c.args.base.now in
    let before = c.loop-place.preimages in
    record {
      taken = taken_on nat_list_cmp_total bytes_same (λ k. k) dropped base old new c.in-Some.place.0 c.in-Some.place.1 before c.in-Some.ensures.removal _ c.remove.new.self None (ap (λ gone. held (dropped gone) (fin.get base c.in-Some.place.0)) c.if-place.true) c.remove.ensures.after c.loop-place.invariant.taken;
      untouched = untouched_on nat_list_cmp_total bytes_same (λ k. k) dropped base old new c.in-Some.place.0 c.in-Some.place.1 before c.in-Some.ensures.removal c.in-Some.ensures.updates None c.remove.new.self c.remove.ensures.after c.loop-place.invariant.untouched;
    }

pub loop-place-preserved-then-place-2 : goal.loop-place-preserved-then-place-2
loop-place-preserved-then-place-2 c =
    let old = c.loop-place.places in
    let new = c.pop_last.new.self in
    let base = c.args.base.now in
    let before = c.loop-place.preimages in
    record {
      taken = taken_on nat_list_cmp_total bytes_same (λ k. k) dropped base old new c.in-Some.place.0 c.in-Some.place.1 before c.in-Some.ensures.removal _ c.remove.new.self None (ap (λ gone. held (dropped gone) (fin.get base c.in-Some.place.0)) c.if-place.true) c.remove.ensures.after c.loop-place.invariant.taken;
      untouched = untouched_on nat_list_cmp_total bytes_same (λ k. k) dropped base old new c.in-Some.place.0 c.in-Some.place.1 before c.in-Some.ensures.removal c.in-Some.ensures.updates None c.remove.new.self c.remove.ensures.after c.loop-place.invariant.untouched;
    }

pub loop-place-preserved : goal.loop-place-preserved
loop-place-preserved c =
    let old = c.loop-place.places in
    let new = c.pop_last.new.self in
    let base = c.args.base.now in
    let before = c.loop-place.preimages in
    record {
      taken = taken_on nat_list_cmp_total bytes_same (λ k. k) dropped base old new c.in-Some.place.0 c.in-Some.place.1 before c.in-Some.ensures.removal _ before (fin.get base c.in-Some.place.0) (ap (λ gone. held (dropped gone) (fin.get base c.in-Some.place.0)) c.if-place.false) (untouched_there nat_list_cmp_total bytes_same (λ k. k) dropped base old new c.in-Some.place.0 c.in-Some.place.1 before c.in-Some.ensures.removal c.loop-place.invariant.untouched c.in-Some.ensures.value) c.loop-place.invariant.taken;
      untouched = untouched_on nat_list_cmp_total bytes_same (λ k. k) dropped base old new c.in-Some.place.0 c.in-Some.place.1 before c.in-Some.ensures.removal c.in-Some.ensures.updates (fin.get base c.in-Some.place.0) before (untouched_there nat_list_cmp_total bytes_same (λ k. k) dropped base old new c.in-Some.place.0 c.in-Some.place.1 before c.in-Some.ensures.removal c.loop-place.invariant.untouched c.in-Some.ensures.value) c.loop-place.invariant.untouched;
    }
