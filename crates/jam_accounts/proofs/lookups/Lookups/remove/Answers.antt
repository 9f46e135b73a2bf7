use Rattle.std.proofs.Common.{ap, sym, subst, ◌∙◌, ℕ, List, ◌<◌, ◌^◌}
use Rattle.std.specs.FinMap as fin
use Rattle.std.proofs.lemmas.Iterator.Adapters.{option_map_id}
use Rattle.jam_codec.specs.Lists.{hash_and_number_cmp}
use Rattle.jam_accounts.specs.Accounts.{HaveShortLengths}
use Rattle.jam_accounts.specs.MapLaws.{got, removed, of_removed, lookups_same}
use Rattle.jam_codec.specs.FormatLaws.{hash_and_number_total}
use Rattle.jam_accounts.proofs.lookups.Lookups.remove.Goals as goal

pub invariant_of-self : goal.invariant_of-self
invariant_of-self c =
    subst HaveShortLengths (sym (removed hash_and_number_cmp (λ (k : List ℕ × ℕ). k) (λ (v : List ℕ). v) hash_and_number_total lookups_same c.self.inside.map c.remove.new.self (c.args.hash.now, c.args.length) c.remove.ensures.updates))
    (of_removed (λ (key : List ℕ × ℕ) (history : List ℕ). key.1 < 2 ^ 32) hash_and_number_total _ (c.args.hash.now, c.args.length) c.self.invariant)

pub returns-clause-value : goal.returns-clause-value
returns-clause-value c = c.remove.ensures.value ∙ sym (option_map_id _) ∙ sym (got hash_and_number_cmp (λ (k : List ℕ × ℕ). k) (λ (v : List ℕ). v) hash_and_number_total c.self.inside.map (c.args.hash.now, c.args.length)) ∙ ap (λ m. fin.get m (c.args.hash.now, c.args.length)) c.self.view_is

pub returns-clause-after : goal.returns-clause-after
returns-clause-after c =
    removed hash_and_number_cmp (λ (k : List ℕ × ℕ). k) (λ (v : List ℕ). v) hash_and_number_total lookups_same c.self.inside.map c.remove.new.self (c.args.hash.now, c.args.length) c.remove.ensures.updates
    ∙ ap (λ m. fin.remove m (c.args.hash.now, c.args.length)) c.self.view_is
