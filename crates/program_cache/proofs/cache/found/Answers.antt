use Rattle.std.proofs.Common.{subst, Contains, nat_eq}
use Rattle.std.specs.Cmp.Lexicographic.{pointwise}
use Rattle.lru.proofs.CallerLemmas.{Contains-promoted}
use Rattle.program_cache.proofs.cache.found.Goals as goal

pub returns-clause-kept : goal.returns-clause-kept
returns-clause-kept c = λ e d. c.requires e (Contains-promoted (pointwise nat_eq c.args.hash.now) c.args.kept.now.entries e (subst (λ x. Contains x.entries e) c.promote.ensures.entries d))
