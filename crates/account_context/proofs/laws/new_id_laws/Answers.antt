use Rattle.std.proofs.Common.{refl}
use Rattle.account_context.specs.NewIdLaws.{ring_place-in, ring_place-zero, ring_places_differ, free_id-none, free_id-only_none, free_id-first}
use Rattle.account_context.proofs.laws.new_id_laws.Goals as goal

pub returns : goal.returns
returns c = record {
  within = ring_place-in;
  itself = ring_place-zero;
  different = ring_places_differ;
  around = refl;
  too_many = free_id-none;
  only_then = free_id-only_none;
  first = free_id-first;
}
