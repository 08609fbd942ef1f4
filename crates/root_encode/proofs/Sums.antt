-- The row of a sum of truths: what it names, and how large its numbers are together.
use Rattle.std.proofs.Common.{ℕ, ◌+◌, ◌*◌, ◌<◌, ◌≤◌, ◌^◌, ℤ, unsigned_abs, List, [], ◌∷◌, map, length, All, arith}
use Rattle.prov_fold.specs.Graphs.{Graph}
use Rattle.prov_fold.specs.Sums.{added_by}
use Rattle.prov_fold.proofs.SameLemmas.{All_head, All_tail}
use Rattle.bool_encode.specs.declared.form.Key.TheVariants as key
use Rattle.bool_encode.specs.declared.form.Piece.{Piece}
use Rattle.bool_encode.specs.declared.stand.Stand.{Stand}
use Rattle.bool_encode.specs.Columns.{columns_of}
use Rattle.bool_encode.specs.Rows.{heft, weight, IsKey}
use Rattle.bool_encode.specs.Tables.{times}
use Rattle.bool_encode.proofs.Each.{All_change, All_to_map}
use Rattle.bool_encode.proofs.LightLemmas.{once_light}
use Rattle.root_encode.specs.Light.{IsLightNode}

module _ (g : Graph) (stands : List Stand) (s : ℤ) (kids : List ℕ) where
  pub keys : All (IsLightNode g stands 2) kids → All (λ (p : Piece). IsKey g p.key) (map (times s) kids)
  keys h = All_to_map (λ (p : Piece). IsKey g p.key) (times s) kids (All_change (IsLightNode g stands 2) (λ k. IsKey g (key.Node k)) kids (λ k is. is.there) h)

added : (g : Graph) (stands : List Stand) (t : ℤ) (kids : List ℕ) → unsigned_abs t ≤ 1 → All (IsLightNode g stands 2) kids → added_by (λ (p : Piece). unsigned_abs p.factor * heft (columns_of g stands p.key)) (map (times t) kids) ≤ 2 * length kids
added g stands t [] small h = omega arith
added g stands t (k ∷ kids) small h =
    let one = once_light (unsigned_abs t) (heft (columns_of g stands (key.Node k))) small (All_head (IsLightNode g stands 2) k kids h).light in
    let rest = added g stands t kids small (All_tail (IsLightNode g stands 2) k kids h) in
    omega (arith, one, rest)

pub light : (g : Graph) (stands : List Stand) (c t : ℤ) (kids : List ℕ) → unsigned_abs t ≤ 1 → unsigned_abs c ≤ length kids + 1 → length kids < 2 ^ 61 → All (IsLightNode g stands 2) kids → weight g stands c (map (times t) kids) < 2 ^ 63
light g stands c t kids one small few h = let all = added g stands t kids one h in omega (arith, all, small, few)
