use Rattle.std.proofs.Common.{Some, None, ap}
use Rattle.std.specs.FinMap as fin
use Rattle.jam_codec.specs.FormatLaws.{hash_and_number_total}
use Rattle.jam_accounts.specs.MapLaws.{lookups_same}
use Rattle.account_overlay.specs.Layers.{seen_change, held}
use Rattle.account_overlay.proofs.Overs.{taken_on, untouched_on, untouched_there}
use Rattle.account_overlay.proofs.histories.lookups_after.Goals as goal

pub loop-key-preserved-in-Continue-branch-2 : goal.loop-key-preserved-in-Continue-branch-2
loop-key-preserved-in-Continue-branch-2 c =
    let old = c.loop-key.places in
    let new = c.pop_last.new.self in
    let base = c.args.base.now in
    let before = c.loop-key.lookups in
    record {
      taken = taken_on hash_and_number_total lookups_same (λ k. k) (seen_change (λ v. v)) base old new c.in-Some.key c.in-Some.change before c.in-Some.ensures.removal _ c.put.new.self (Some c.in-Is.history) (ap (λ change. held (seen_change (λ v. v) change) (fin.get base c.in-Some.key)) c.in-Is.is) c.in_ok-put-in-Is.ensures.ok c.loop-key.invariant.taken;
      untouched = untouched_on hash_and_number_total lookups_same (λ k. k) (seen_change (λ v. v)) base old new c.in-Some.key c.in-Some.change before c.in-Some.ensures.removal c.in-Some.ensures.updates (Some c.in-Is.history) c.put.new.self c.in_ok-put-in-Is.ensures.ok c.loop-key.invariant.untouched;
    }

pub loop-key-preserved-in-Gone : goal.loop-key-preserved-in-Gone
loop-key-preserved-in-Gone c =
    let old = c.loop-key.places in
    let new = c.pop_last.new.self in
    let base = c.args.base.now in
    let before = c.loop-key.lookups in
    record {
      taken = taken_on hash_and_number_total lookups_same (λ k. k) (seen_change (λ v. v)) base old new c.in-Some.key c.in-Some.change before c.in-Some.ensures.removal _ c.remove.new.self None (ap (λ change. held (seen_change (λ v. v) change) (fin.get base c.in-Some.key)) c.in-Gone.is) c.remove.ensures.after c.loop-key.invariant.taken;
      untouched = untouched_on hash_and_number_total lookups_same (λ k. k) (seen_change (λ v. v)) base old new c.in-Some.key c.in-Some.change before c.in-Some.ensures.removal c.in-Some.ensures.updates None c.remove.new.self c.remove.ensures.after c.loop-key.invariant.untouched;
    }

pub loop-key-preserved : goal.loop-key-preserved
loop-key-preserved c =
    let old = c.loop-key.places in
    let new = c.pop_last.new.self in
    let base = c.args.base.now in
    let before = c.loop-key.lookups in
    record {
      taken = taken_on hash_and_number_total lookups_same (λ k. k) (seen_change (λ v. v)) base old new c.in-Some.key c.in-Some.change before c.in-Some.ensures.removal _ before (fin.get base c.in-Some.key) (ap (λ change. held (seen_change (λ v. v) change) (fin.get base c.in-Some.key)) c.in-AsBase.is) (untouched_there hash_and_number_total lookups_same (λ k. k) (seen_change (λ v. v)) base old new c.in-Some.key c.in-Some.change before c.in-Some.ensures.removal c.loop-key.invariant.untouched c.in-Some.ensures.value) c.loop-key.invariant.taken;
      untouched = untouched_on hash_and_number_total lookups_same (λ k. k) (seen_change (λ v. v)) base old new c.in-Some.key c.in-Some.change before c.in-Some.ensures.removal c.in-Some.ensures.updates (fin.get base c.in-Some.key) before (untouched_there hash_and_number_total lookups_same (λ k. k) (seen_change (λ v. v)) base old new c.in-Some.key c.in-Some.change before c.in-Some.ensures.removal c.loop-key.invariant.untouched c.in-Some.ensures.value) c.loop-key.invariant.untouched;
    }
