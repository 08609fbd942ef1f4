use Rattle.std.proofs.Common.{◌≡◌, ◌+◌, ◌*◌, ◌≤◌, ◌^◌, ◌+ℤ◌, unsigned_abs, drop}
use Rattle.prov_fold.specs.Sums.{added_by, total_by}
use Rattle.prov_fold.specs.declared.sums.Scrap.{Scrap}
use Rattle.prov_fold.specs.Scraps.{told, weight_of, fall_of, rise_of}
use Rattle.prov_fold.proofs.fold.Fold.ends.Given as goal

abbrev pub invariant-loop-scrap : goal.invariant-loop-scrap
invariant-loop-scrap l = record {
  low : l.lo +ℤ total_by (λ (s : Scrap). fall_of l.self (told s)) (drop l.scrap-index l.joined) ≡ l.base +ℤ total_by (λ (s : Scrap). fall_of l.self (told s)) l.joined;
  high : l.hi +ℤ total_by (λ (s : Scrap). rise_of l.self (told s)) (drop l.scrap-index l.joined) ≡ l.base +ℤ total_by (λ (s : Scrap). rise_of l.self (told s)) l.joined;
  weight : added_by (λ (s : Scrap). weight_of l.self (told s)) (drop l.scrap-index l.joined) ≤ 10 ^ 36;
  small_lo : unsigned_abs l.lo + added_by (λ (s : Scrap). weight_of l.self (told s)) (drop l.scrap-index l.joined) ≤ 2 * 10 ^ 36;
  small_hi : unsigned_abs l.hi + added_by (λ (s : Scrap). weight_of l.self (told s)) (drop l.scrap-index l.joined) ≤ 2 * 10 ^ 36;
}
