use Rattle.std.proofs.Common.{arith, ap, sym, subst, ◌∙◌, ℕ, List, ◌<◌, ◌^◌}
use Rattle.std.specs.FinMap as fin
use Rattle.jam_codec.specs.Lists.{hash_and_number_cmp}
use Rattle.jam_accounts.specs.Accounts.{HaveShortLengths}
use Rattle.jam_accounts.specs.MapLaws.{on_err, nothing_seen, inserted, of_inserted, lookups_same}
use Rattle.jam_codec.specs.FormatLaws.{hash_and_number_total}
use Rattle.jam_accounts.proofs.lookups.Lookups.put.Goals as goal

pub invariant_of-self-2 : goal.invariant_of-self-2
invariant_of-self-2 c =
    subst HaveShortLengths (sym (inserted hash_and_number_cmp (λ (k : List ℕ × ℕ). k) (λ (v : List ℕ). v) hash_and_number_total lookups_same c.self.inside.map c.insert.new.self (c.args.hash.now, c.args.length) c.args.history c.in_ok-insert.ensures.entries))
    (of_inserted (λ (key : List ℕ × ℕ) (history : List ℕ). key.1 < 2 ^ 32) hash_and_number_total lookups_same _ (c.args.hash.now, c.args.length) c.args.history c.self.invariant (omega (arith, c.ranges.length)))

pub returns-clause-ok : goal.returns-clause-ok
returns-clause-ok c =
    inserted hash_and_number_cmp (λ (k : List ℕ × ℕ). k) (λ (v : List ℕ). v) hash_and_number_total lookups_same c.self.inside.map c.insert.new.self (c.args.hash.now, c.args.length) c.args.history c.in_ok-insert.ensures.entries
    ∙ ap (λ m. fin.insert m (c.args.hash.now, c.args.length) c.args.history) c.self.view_is

pub invariant_of-self : goal.invariant_of-self
invariant_of-self c = rw c.in_err-insert.ensures.err c.self.invariant

pub returns-in_err-insert-clause-absent : goal.returns-in_err-insert-clause-absent
returns-in_err-insert-clause-absent c =
    on_err c.from_residual.result (sym (ap (λ m. fin.get m (c.args.hash.now, c.args.length)) c.self.view_is) ∙ nothing_seen hash_and_number_cmp (λ (k : List ℕ × ℕ). k) (λ (v : List ℕ). v) hash_and_number_total c.self.inside.map (c.args.hash.now, c.args.length) c.in_err-insert.ensures.absent)
