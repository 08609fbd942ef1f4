-- What `==` says of terms and pairs.
use Rattle.std.proofs.Common.{◌≡◌}
use Rattle.std.specs.Bool.{Decides}
use Rattle.std.proofs.lemmas.Bool.Decides.{Decides-int_eq, Decides-eqb, Decides-and, Decides-like}
use Rattle.prov_arena.specs.declared.part.Term.{Term}
use Rattle.prov_arena.specs.declared.part.Pair.{Pair}
use Rattle.prov_arena.specs.contracts.part.TermPartialEq.TheImpl.{eq-value as term_eq}
use Rattle.prov_arena.specs.contracts.part.PairPartialEq.TheImpl.{eq-value as pair_eq}

pub term_Decides : (a b : Term) → Decides (term_eq.it a b) (a ≡ b)
term_Decides a b =
    Decides-like _ (λ e. λ i. record { factor = e.0 i; node = e.1 i }) (λ e. (λ i. (e i).factor, λ i. (e i).node)) (Decides-and _ _ (Decides-int_eq a.factor b.factor) (Decides-eqb a.node b.node))

pub pair_Decides : (a b : Pair) → Decides (pair_eq.it a b) (a ≡ b)
pair_Decides a b =
    Decides-like _ (λ e. λ i. record { truth = e.0 i; number = e.1 i }) (λ e. (λ i. (e i).truth, λ i. (e i).number)) (Decides-and _ _ (Decides-eqb a.truth b.truth) (Decides-eqb a.number b.number))
