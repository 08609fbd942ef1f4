-- Forms that are appended in turn.
use Rattle.std.proofs.Common.{◌≡◌, ◌∙◌, sym, ap, ap₂, subst, refl, ℕ, zero, suc, ◌+◌, ◌<◌, ◌≤◌, List, [], ◌∷◌, ◌++◌, map, flat_map, length, take, get_or, arith, append_assoc, append-nil}
use Rattle.std.proofs.lemmas.List.{take_all}
use Rattle.std.proofs.lemmas.List.Elements.{All-append}
use Rattle.prov_fold.specs.Graphs.{Graph}
use Rattle.prov_fold.proofs.SameLemmas.{All_cons}
use Rattle.bool_encode.specs.Forms.{Form}
use Rattle.bool_encode.proofs.Each.{All_none}
use Rattle.program_rows.specs.declared.linear.LinearForm.{LinearForm}
use Rattle.program_rows.specs.Fair.{told, Asks, IsFair}

map_join : (xs ys : List LinearForm) → map told (xs ++ ys) ≡ map told xs ++ map told ys
map_join [] ys = refl
map_join (x ∷ xs) ys = ap (λ (l : List Form). told x ∷ l) (map_join xs ys)

pub asks_none : (g : Graph) (before : List LinearForm) → Asks g [] before before
asks_none g before = record { made = []; all = sym (append-nil before); are = refl; fair = All_none (IsFair g) }

pub asks_one : (g : Graph) (r : Form) (f : LinearForm) (before after : List LinearForm) → after ≡ before ++ f ∷ [] → told f ≡ r → IsFair g (told f) → Asks g (r ∷ []) before after
asks_one g r f before after e is fair = record { made = f ∷ []; all = e; are = ap (λ (x : Form). x ∷ []) is; fair = All_cons (IsFair g) r [] (subst (IsFair g) is fair) (All_none (IsFair g)) }

pub asks_both : (g : Graph) (xs ys : List Form) (before mid after : List LinearForm) → Asks g xs before mid → Asks g ys mid after → Asks g (xs ++ ys) before after
asks_both g xs ys before mid after a b =
    record {
      made = a.made ++ b.made;
      all = b.all ∙ ap (λ (l : List LinearForm). l ++ b.made) a.all ∙ append_assoc before a.made b.made;
      are = map_join a.made b.made ∙ ap₂ (λ (k l : List Form). k ++ l) a.are b.are;
      fair = All-append (IsFair g) xs ys a.fair b.fair;
    }

flat_suc : (f : ℕ → List Form) (kids : List ℕ) (i : ℕ) → i < length kids → flat_map f (take (suc i) kids) ≡ flat_map f (take i kids) ++ f (get_or kids i 0)
flat_suc f [] i lt = absurd (omega (arith, lt))
flat_suc f (k ∷ kids) zero lt = append-nil (f k)
flat_suc f (k ∷ kids) (suc i) lt = ap (λ (l : List Form). f k ++ l) (flat_suc f kids i (omega (arith, lt))) ∙ sym (append_assoc (f k) (flat_map f (take i kids)) (f (get_or kids i 0)))

flat_more : (f : ℕ → List Form) (kids : List ℕ) (i : ℕ) → i < length kids → flat_map f (take (i + 1) kids) ≡ flat_map f (take i kids) ++ f (get_or kids i 0)
flat_more f kids i lt = let more : i + 1 ≡ suc i = omega arith in ap (λ (n : ℕ). flat_map f (take n kids)) more ∙ flat_suc f kids i lt

pub asks_more : (g : Graph) (f : ℕ → List Form) (kids : List ℕ) (i : ℕ) (before mid after : List LinearForm) → i < length kids → Asks g (flat_map f (take i kids)) before mid → Asks g (f (get_or kids i 0)) mid after
    → Asks g (flat_map f (take (i + 1) kids)) before after
asks_more g f kids i before mid after lt a b = subst (λ (fs : List Form). Asks g fs before after) (sym (flat_more f kids i lt)) (asks_both g (flat_map f (take i kids)) (f (get_or kids i 0)) before mid after a b)

pub asks_end : (g : Graph) (f : ℕ → List Form) (kids : List ℕ) (i : ℕ) (before after : List LinearForm) → length kids ≤ i → Asks g (flat_map f (take i kids)) before after → Asks g (flat_map f kids) before after
asks_end g f kids i before after le a = subst (λ (l : List ℕ). Asks g (flat_map f l) before after) (take_all i kids le) a

-- with nothing before, the forms are what was appended
pub asks_are : (g : Graph) (forms : List Form) (before after : List LinearForm) → before ≡ [] → Asks g forms before after → map told after ≡ forms
asks_are g forms before after none a = ap (map told) (a.all ∙ ap (λ (l : List LinearForm). l ++ a.made) none) ∙ a.are
