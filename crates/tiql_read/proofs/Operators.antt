-- parts between operators
use Rattle.std.proofs.Common.{◌≡◌, ◌+◌, suc, Bool, true, false, List, [], ◌∷◌, ◌++◌, length, drop, sym, ◌∙◌, ap, arith, Ok}
use Rattle.std.proofs.lemmas.List.{append-nil}
use Rattle.tiql_tree.specs.Words.{Word}
use Rattle.tiql_tree.specs.Trees.{Places}
use Rattle.tiql_read.specs.Steps.{Words, Reading, ◌>>=◌}
use Rattle.tiql_read.proofs.Exact.{starts, Exact}
use Rattle.std.proofs.lemmas.List.{drop-drop}
use Rattle.std.specs.List.{flat_map}
use Rattle.tiql_read.specs.Steps.{many_at}
use Rattle.tiql_read.proofs.Chains.{bind}
use Rattle.tiql_read.proofs.Branches.{recast}
use Rattle.tiql_read.proofs.Many.{under, many, many_ok, many_tree}
use Rattle.tiql_read.proofs.Lists.{or_else, or_first, or_second, value}

-- a part and these more, each behind its separator
unfoldable pub made_by : {F S T : Type 0} → (F → T) → (F → S → T → T) → F → List (S × F) → T
made_by last next f [] = last f
made_by last next f (g ∷ gs) = next f g.0 (made_by last next g.1 gs)

-- parts F with separators S between them, as the rule T derives them: the last part, or a part, a separator and the rest
module _ {F S T A I : Type 0} (last : F → T) (next : F → S → T → T) (first_of : T → F) (rest_of : T → List (S × F))
    (w : F → List Word) (sep : S → Word) (all_words : T → List Word) (ok : F → Type 0) (all_ok : T → Type 0)
    (t : Places → F → A) (item : S → A → I) (node : A → List I → A) (tree : Places → T → A) (parts : S → Places → T → List I) where
  abbrev made_of : F → List (S × F) → T
  made_of f gs = made_by last next f gs

  abbrev part_words : S × F → List Word
  part_words g = sep g.0 ∷ w g.1

  abbrev part_tree : {X : Type 0} → X → Places → S × F → I
  part_tree e p g = item g.0 (t (drop 1 p) g.1)

  -- what the rule says of its two cases
  pub record Operator : Type 1 where
    pub words_last : (f : F) → all_words (last f) ≡ w f
    pub words_next : (f : F) (s : S) (m : T) → all_words (next f s m) ≡ w f ++ sep s ∷ all_words m
    pub ok_last : (f : F) → ok f → all_ok (last f)
    pub ok_next : (f : F) (s : S) (m : T) → ok f → all_ok m → all_ok (next f s m)
    pub ok_parts : (d : T) → all_ok d → ok (first_of d) × many_ok (λ (g : S × F). ok g.1) (rest_of d)
    pub onto : (d : T) → made_of (first_of d) (rest_of d) ≡ d
    pub node_one : (a : A) → node a [] ≡ a
    pub tree_last : (p : Places) (f : F) → tree p (last f) ≡ t p f
    pub tree_next : (p : Places) (f : F) (s : S) (m : T) → tree p (next f s m) ≡ node (t p f) (parts s (drop (length (w f) + 1) p) m)
    pub parts_last : (s : S) (p : Places) (f : F) → parts s p (last f) ≡ item s (t p f) ∷ []
    pub parts_next : (s : S) (p : Places) (f : F) (r : S) (m : T) → parts s p (next f r m) ≡ item s (t p f) ∷ parts r (drop (length (w f) + 1) p) m

  made_words : Operator → (f : F) (gs : List (S × F)) → all_words (made_of f gs) ≡ w f ++ flat_map part_words gs
  unfolding made_by
  made_words rule f [] = rule.words_last f ∙ sym (append-nil (w f))
  made_words rule f (g ∷ gs) = rule.words_next f g.0 (made_of g.1 gs) ∙ ap (λ (l : List Word). w f ++ sep g.0 ∷ l) (made_words rule g.1 gs)

  made_ok : Operator → (f : F) (gs : List (S × F)) → ok f → many_ok (λ (g : S × F). ok g.1) gs → all_ok (made_of f gs)
  unfolding made_by
  made_ok rule f [] one more = rule.ok_last f one
  made_ok rule f (g ∷ gs) one more = rule.ok_next f g.0 (made_of g.1 gs) one (made_ok rule g.1 gs more.0 more.1)

  made_parts : {X : Type 0} → Operator → (e : X) (s : S) (f : F) (gs : List (S × F)) (q : Places) → parts s (drop 1 q) (made_of f gs) ≡ item s (t (drop 1 q) f) ∷ many_tree part_words part_tree e (drop (suc (length (w f))) q) gs
  unfolding made_by
  made_parts rule e s f [] q = rule.parts_last s (drop 1 q) f
  made_parts rule e s f (g ∷ gs) q =
      let size : 1 + (length (w f) + 1) ≡ suc (length (w f)) + 1 = omega arith in
      let places : drop (length (w f) + 1) (drop 1 q) ≡ drop 1 (drop (suc (length (w f))) q) = drop-drop (length (w f) + 1) 1 q ∙ ap (λ n. drop n q) size ∙ sym (drop-drop 1 (suc (length (w f))) q) in
      rule.parts_next s (drop 1 q) f g.0 (made_of g.1 gs)
      ∙ ap (λ (p : Places). item s (t (drop 1 q) f) ∷ parts g.0 p (made_of g.1 gs)) places
      ∙ ap (λ (l : List I). item s (t (drop 1 q) f) ∷ l) (made_parts rule e g.0 g.1 gs (drop (suc (length (w f))) q))

  made_tree : {X : Type 0} → Operator → (e : X) (p : Places) (f : F) (gs : List (S × F)) → tree p (made_of f gs) ≡ node (t p f) (many_tree part_words part_tree e (drop (length (w f)) p) gs)
  unfolding made_by
  made_tree rule e p f [] = rule.tree_last p f ∙ sym (rule.node_one (t p f))
  made_tree rule e p f (g ∷ gs) =
      rule.tree_next p f g.0 (made_of g.1 gs)
      ∙ ap (λ (q : Places). node (t p f) (parts g.0 q (made_of g.1 gs))) (sym (drop-drop 1 (length (w f)) p))
      ∙ ap (node (t p f)) (made_parts rule e g.0 g.1 gs (drop (length (w f)) p))

  pub operators : {X : Type 0} {r : Words → Reading A} {rest : Words → Reading I} {ext1 : Word → Bool} → Operator →
      Exact {X = X} {A = A} {D = F} (λ e v. r v) w ok (λ e p f. t p f) ext1 → Exact {X = X} {A = I} {D = S × F} (λ e v. rest v) part_words (λ g. ok g.1) part_tree ext1 →
      (test : Word → Bool) → ((s : S) → test (sep s) ≡ true) → ((s : S) → ext1 (sep s) ≡ false) →
      Exact {X = X} {A = A} {D = T} (λ e v. r v >>= λ x. many_at test rest x.1 >>= λ y. Ok (node x.0 y.0, y.1)) all_words all_ok (λ e p d. tree p d) (or_else test ext1)
  operators {X} {r} {rest} {ext1} rule one part test hit apart =
      recast (bind one (bind (under (λ (e : X × A). e.0) (many part test (or_else test ext1) (λ g us good. hit g.0) (λ g us good. apart g.0) (or_first test ext1) (or_second test ext1))) (value (λ (e : (X × A) × List I). node e.0.1 e.1) (or_else test ext1)) (λ d us good end. end)) ends)
      all_words all_ok (λ e p d. tree p d) (or_else test ext1) (λ d. made_of d.0 d.1.0) (λ d. (first_of d, (rest_of d, tt)))
      (λ d. made_words rule d.0 d.1.0 ∙ ap (λ (l : List Word). w d.0 ++ l) (sym (append-nil (flat_map part_words d.1.0)))) (λ d good. made_ok rule d.0 d.1.0 good.0 good.1.0) (λ d good. let k = rule.ok_parts d good in (k.0, (k.1, tt)))
      (λ e p d. made_tree rule e p d.0 d.1.0) (λ d good. rule.onto d) (λ us end. end)
    where
      ends : (d : List (S × F) × Unit {0}) (us : List Word) → many_ok (λ (g : S × F). ok g.1) d.0 × Unit {0} → starts (or_else test ext1) us ≡ false → starts ext1 ((flat_map part_words d.0 ++ []) ++ us) ≡ false
      ends d us good end = by_parts d.0
        where
          by_parts : (gs : List (S × F)) → starts ext1 ((flat_map part_words gs ++ []) ++ us) ≡ false
          by_parts [] = or_second test ext1 us end
          by_parts (g ∷ gs) = apart g.0
