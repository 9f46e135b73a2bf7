use Rattle.std.proofs.Common.{arith, ap, sym, subst, ◌∙◌, ℕ, List, ◌<◌, ◌^◌}
use Rattle.std.specs.FinMap as fin
use Rattle.std.proofs.lemmas.Iterator.Adapters.{option_map_id}
use Rattle.jam_codec.specs.Lists.{hash_and_number_cmp}
use Rattle.jam_accounts.specs.Accounts.{HaveShortLengths}
use Rattle.jam_accounts.specs.MapLaws.{got, inserted, something_seen, of_inserted, lookups_same}
use Rattle.jam_codec.specs.FormatLaws.{hash_and_number_total}
use Rattle.jam_accounts.proofs.lookups.Lookups.replace.Goals as goal

pub unreachable-requires : goal.unreachable-requires
unreachable-requires c =
    something_seen hash_and_number_cmp (λ (k : List ℕ × ℕ). k) (λ (v : List ℕ). v) hash_and_number_total c.self.inside.map (c.args.hash.now, c.args.length) c.args.self.now c.self.view_is c.requires (sym c.in-Ok-None.ensures.old ∙ c.in-Ok-None.field-0-is)

pub unreachable-requires-in-Err : goal.unreachable-requires-in-Err
unreachable-requires-in-Err c =
    something_seen hash_and_number_cmp (λ (k : List ℕ × ℕ). k) (λ (v : List ℕ). v) hash_and_number_total c.self.inside.map (c.args.hash.now, c.args.length) c.args.self.now c.self.view_is c.requires c.in-Err.ensures.absent

pub invariant_of-self : goal.invariant_of-self
invariant_of-self c =
    subst HaveShortLengths (sym (inserted hash_and_number_cmp (λ (k : List ℕ × ℕ). k) (λ (v : List ℕ). v) hash_and_number_total lookups_same c.self.inside.map c.insert.new.self (c.args.hash.now, c.args.length) c.args.history c.in-Ok-Some.ensures.entries))
    (of_inserted (λ (key : List ℕ × ℕ) (history : List ℕ). key.1 < 2 ^ 32) hash_and_number_total lookups_same _ (c.args.hash.now, c.args.length) c.args.history c.self.invariant (omega (arith, c.ranges.length)))

pub returns-clause-value : goal.returns-clause-value
returns-clause-value c =
    sym c.in-Ok-Some.field-0-is ∙ c.in-Ok-Some.ensures.old
    ∙ sym (option_map_id _) ∙ sym (got hash_and_number_cmp (λ (k : List ℕ × ℕ). k) (λ (v : List ℕ). v) hash_and_number_total c.self.inside.map (c.args.hash.now, c.args.length)) ∙ ap (λ m. fin.get m (c.args.hash.now, c.args.length)) c.self.view_is

pub returns-clause-after : goal.returns-clause-after
returns-clause-after c =
    inserted hash_and_number_cmp (λ (k : List ℕ × ℕ). k) (λ (v : List ℕ). v) hash_and_number_total lookups_same c.self.inside.map c.insert.new.self (c.args.hash.now, c.args.length) c.args.history c.in-Ok-Some.ensures.entries
    ∙ ap (λ m. fin.insert m (c.args.hash.now, c.args.length) c.args.history) c.self.view_is
