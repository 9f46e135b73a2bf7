use Rattle.std.proofs.Common.{◌≡◌, ◌||◌, Bool, true, false, ℕ, sym, ap, ◌∙◌, Some}
use Rattle.std.specs.FinMap as fin
use Rattle.account_context.specs.NewIdLaws.{first_free-more, first_free-here, first_free-past}
use Rattle.account_overlay.proofs.overlay.first_free.Goals as goal

pub returns-then-not-is_taken : goal.returns-then-not-is_taken
returns-then-not-is_taken c =
    let taken : ℕ → Bool = λ id. fin.contains_key c.args.others.now.base id || fin.contains_key c.args.others.now.now id in
    let free : taken c.ring_place-id.result ≡ false = sym c.is_taken.ensures ∙ c.if-not-is_taken.true in
    ap Some c.ring_place-id.ensures
    ∙ sym (first_free-here taken c.args.candidate c.args.count c.loop-places.places c.loop-places-test.true (ap taken (sym c.ring_place-id.ensures) ∙ free)) ∙ c.loop-places.invariant

pub loop-places-preserved : goal.loop-places-preserved
loop-places-preserved c =
    let taken : ℕ → Bool = λ id. fin.contains_key c.args.others.now.base id || fin.contains_key c.args.others.now.now id in
    let there : taken c.ring_place-id.result ≡ true = sym c.is_taken.ensures ∙ c.if-not-is_taken.false in
    sym (first_free-more taken c.args.candidate c.args.count c.loop-places.places c.loop-places-test.true (ap taken (sym c.ring_place-id.ensures) ∙ there)) ∙ c.loop-places.invariant

pub returns : goal.returns
returns c =
    let taken : ℕ → Bool = λ id. fin.contains_key c.args.others.now.base id || fin.contains_key c.args.others.now.now id in
    sym (first_free-past taken c.args.candidate c.args.count c.loop-places.places c.loop-places-test.false) ∙ c.loop-places.invariant
