use Rattle.std.proofs.Common.{ap, ◌∙◌, ℕ, List}
use Rattle.std.specs.FinMap as fin
use Rattle.jam_codec.specs.Lists.{hash_and_number_cmp}
use Rattle.jam_accounts.specs.MapLaws.{length_seen}
use Rattle.jam_codec.specs.FormatLaws.{hash_and_number_total}
use Rattle.jam_accounts.proofs.lookups.Lookups.len.Goals as goal

pub returns-clause-count : goal.returns-clause-count
returns-clause-count c = c.len.ensures.len ∙ length_seen hash_and_number_cmp (λ (k : List ℕ × ℕ). k) (λ (v : List ℕ). v) hash_and_number_total c.self.inside.map c.len.ensures.ordered ∙ ap fin.len c.self.view_is
