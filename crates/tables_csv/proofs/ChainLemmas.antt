-- what the chains say, and that they stay right when one more place is linked
use Rattle.std.proofs.Common.{Option, ◌≡◌, ◌≢◌, ◌∙◌, sym, ap, subst, refl, ℕ, zero, suc, ◌+◌, ◌-◌, ◌%◌, ◌<◌, ◌≤◌, ◌==◌, inl, inr, Bool, true, false, cond, List, [], ◌∷◌, ◌++◌, length, slice_index, slice_set, replicate, arith, length-set}
use Rattle.std.proofs.lemmas.Bool.{cases_lt}
use Rattle.std.proofs.lemmas.Bool.Decides.{Decides-eqb}
use Rattle.std.proofs.lemmas.List.{get_or_append_left, get_or_push, get_or-set_same, get_or-set_other, get_or-replicate, length-replicate}
use Rattle.base_kit.specs.declared.value.Value.{Value}
use Rattle.tables_csv.specs.Hashes.{hash_of}
use Rattle.tiql_query.specs.Keys.{key_at}
use Rattle.tables_csv.specs.Chains.{last_before, AreLinked, Linked, Seeking}

-- what is true of the last place below k of a chain
pub record Last (chains : ℕ) (hashes : List ℕ) (chain k link : ℕ) : Type 0 where
  pub below : link ≤ k
  pub hashed : 0 < link → slice_index hashes (link - 1) % chains ≡ chain
  pub none : (i : ℕ) → link ≤ i → i < k → slice_index hashes i % chains ≢ chain

last_step : (chains : ℕ) (hashes : List ℕ) (chain k link : ℕ) → Last chains hashes chain k link → (b : Bool) → (slice_index hashes k % chains == chain) ≡ b → Last chains hashes chain (suc k) (cond b (suc k) link)
last_step chains hashes chain k link l true e =
    let here : k ≡ suc k - 1 = omega arith in
    record {
      below = omega arith;
      hashed = λ some. subst (λ j. slice_index hashes j % chains ≡ chain) here ((Decides-eqb (slice_index hashes k % chains) chain).0 e);
      none = λ i from lt. absurd (omega arith);
    }
last_step chains hashes chain k link l false e = record {
  below = omega (arith, l.below);
  hashed = l.hashed;
  none = λ i from lt same. elim (cases_lt i k) as (λ _. ⊥) [
    | inl less ↦ l.none i from less same
    | inr more ↦
        let here : i ≡ k = omega arith in
        let there : slice_index hashes k % chains ≡ chain = subst (λ j. slice_index hashes j % chains ≡ chain) here same in
        let no : true ≡ false = sym ((Decides-eqb (slice_index hashes k % chains) chain).1 there) ∙ e in
        cc
  ];
}

pub last_is : (chains : ℕ) (hashes : List ℕ) (chain k : ℕ) → Last chains hashes chain k (last_before chains hashes chain k)
last_is chains hashes chain zero = record { below = omega arith; hashed = λ some. absurd (omega arith); none = λ i from lt. absurd (omega arith) }
last_is chains hashes chain (suc k) =
    last_step chains hashes chain k (last_before chains hashes chain k) (last_is chains hashes chain k) (slice_index hashes k % chains == chain) refl

-- the chains below k depend on the hashes below k alone
last_same : (chains : ℕ) (hashes more : List ℕ) (chain k : ℕ) → ((i : ℕ) → i < k → slice_index more i ≡ slice_index hashes i) → last_before chains more chain k ≡ last_before chains hashes chain k
last_same chains hashes more chain zero same = refl
last_same chains hashes more chain (suc k) same =
    let rest : last_before chains more chain k ≡ last_before chains hashes chain k = last_same chains hashes more chain k (λ i lt. same i (omega arith)) in
    λ j. cond (same k (omega arith) j % chains == chain) (suc k) (rest j)

-- ---- the search

seek_from : (key : List ℕ) (rows : List (List Value)) (hashes links heads : List ℕ) (sought : List (Option Value)) (chain k link : ℕ) → AreLinked key rows hashes links heads → chain ≡ hash_of sought % length heads → k ≤ length rows → link ≡ last_before (length heads) hashes chain k → ((i : ℕ) → k ≤ i → i < length rows → key_at key rows i ≢ sought) → Seeking key rows hashes (length heads) sought link
seek_from key rows hashes links heads sought chain k link kept chain_is le link_is rest =
    let l : Last (length heads) hashes chain k link = subst (Last (length heads) hashes chain k) (sym link_is) (last_is (length heads) hashes chain k) in
    record {
      within = omega (arith, l.below);
      beyond = λ i from lt same. elim (cases_lt i k) as (λ _. ⊥) [
        | inl less ↦ l.none i from less (ap (λ h. h % length heads) (kept.hashed i lt ∙ ap hash_of same) ∙ sym chain_is)
        | inr more ↦ rest i more lt same
      ];
      hashed = λ some. l.hashed some ∙ chain_is;
    }

pub seek_begins : (key : List ℕ) (rows : List (List Value)) (hashes links heads : List ℕ) (sought : List (Option Value)) (hash link : ℕ) → AreLinked key rows hashes links heads → hash ≡ hash_of sought → hash % length heads < length heads → link ≡ slice_index heads (hash % length heads) → Seeking key rows hashes (length heads) sought link
seek_begins key rows hashes links heads sought hash link kept hash_is lt link_is =
    seek_from key rows hashes links heads sought (hash % length heads) (length rows) link kept (ap (λ h. h % length heads) hash_is) (omega arith) (link_is ∙ kept.linked.first (hash % length heads) lt) (λ i from less. absurd (omega arith))

pub seek_goes_on : (key : List ℕ) (rows : List (List Value)) (hashes links heads : List ℕ) (sought : List (Option Value)) (link next : ℕ) → AreLinked key rows hashes links heads → Seeking key rows hashes (length heads) sought link → 0 < link → key_at key rows (link - 1) ≢ sought → next ≡ slice_index links (link - 1) → Seeking key rows hashes (length heads) sought next
seek_goes_on key rows hashes links heads sought link next kept s some other next_is =
    seek_from key rows hashes links heads sought (slice_index hashes (link - 1) % length heads) (link - 1) next kept (s.hashed some) (omega (arith, s.within)) (next_is ∙ kept.linked.next (link - 1) (omega (arith, s.within)))
    (λ i from lt. elim (cases_lt i link) as (λ _. key_at key rows i ≢ sought) [
      | inl less ↦ let here : link - 1 ≡ i = omega arith in subst (λ j. key_at key rows j ≢ sought) here other
      | inr more ↦ s.beyond i more lt
    ])

pub next_falls : (key : List ℕ) (rows : List (List Value)) (hashes links heads : List ℕ) (i : ℕ) → AreLinked key rows hashes links heads → i < length rows → slice_index links i ≤ i
next_falls key rows hashes links heads i kept lt =
    subst (λ n. n ≤ i) (sym (kept.linked.next i lt)) (last_is (length heads) hashes (slice_index hashes i % length heads) i).below

-- ---- one more place

module _ (k : ℕ) (hashes links heads : List ℕ) (l : Linked k hashes links heads) (hashes' links' : List ℕ) (chain : ℕ)
    (chain_is : chain ≡ slice_index hashes' k % length heads) (lt : chain < length heads) (next_is : slice_index links' k ≡ slice_index heads chain)
    (same_hashes : (i : ℕ) → i < k → slice_index hashes' i ≡ slice_index hashes i) (same_links : (i : ℕ) → i < k → slice_index links' i ≡ slice_index links i) where
  heads' : List ℕ
  heads' = slice_set heads chain (k + 1)

  first_by : (c : ℕ) → c < length heads → (b : Bool) → (slice_index hashes' k % length heads == c) ≡ b → slice_index heads' c ≡ cond b (suc k) (last_before (length heads) hashes' c k)
  unfolding heads'
  first_by c below true e =
      let same : c ≡ chain = sym ((Decides-eqb (slice_index hashes' k % length heads) c).0 e) ∙ sym chain_is in
      let one : k + 1 ≡ suc k = omega arith in
      subst (λ (d : ℕ). slice_index (slice_set heads chain (k + 1)) d ≡ suc k) (sym same) (get_or-set_same heads chain (k + 1) 0 lt ∙ one)
  first_by c below false e =
      let other : chain ≢ c = λ same. let no : true ≡ false = sym ((Decides-eqb (slice_index hashes' k % length heads) c).1 (sym chain_is ∙ same)) ∙ e in cc in
      get_or-set_other heads chain c (k + 1) 0 (λ same. other (sym same)) ∙ l.first c below ∙ sym (last_same (length heads) hashes hashes' c k same_hashes)

  next_below : (i : ℕ) → i < k → slice_index links' i ≡ last_before (length heads) hashes' (slice_index hashes' i % length heads) i
  next_below i less =
      same_links i less ∙ l.next i less ∙ ap (λ h. last_before (length heads) hashes (h % length heads) i) (sym (same_hashes i less))
      ∙ sym (last_same (length heads) hashes hashes' (slice_index hashes' i % length heads) i (λ j before. same_hashes j (omega arith)))

  next_here : (i : ℕ) → k ≡ i → slice_index links' i ≡ last_before (length heads) hashes' (slice_index hashes' i % length heads) i
  next_here i here =
      subst (λ (j : ℕ). slice_index links' j ≡ last_before (length heads) hashes' (slice_index hashes' j % length heads) j) here
      (next_is ∙ l.first chain lt ∙ ap (λ c. last_before (length heads) hashes c k) chain_is ∙ sym (last_same (length heads) hashes hashes' (slice_index hashes' k % length heads) k same_hashes))

  next_by : (i : ℕ) → i < k + 1 → slice_index links' i ≡ last_before (length heads) hashes' (slice_index hashes' i % length heads) i
  next_by i below = elim (cases_lt i k) as (λ _. slice_index links' i ≡ last_before (length heads) hashes' (slice_index hashes' i % length heads) i) [ inl less ↦ next_below i less | inr more ↦ next_here i (omega arith) ]

  linked_by : (n : ℕ) → length heads ≡ n → Linked (k + 1) hashes' links' heads'
  unfolding heads'
  linked_by n n_is =
      let size : length (slice_set heads chain (k + 1)) ≡ length heads = length-set heads chain (k + 1) in
      let one : suc k ≡ k + 1 = omega arith in
      record {
        some = omega (arith, l.some);
        first = λ c below.
            subst (λ (m : ℕ). slice_index (slice_set heads chain (k + 1)) c ≡ last_before m hashes' c (k + 1)) (sym size)
            (subst (λ (m : ℕ). slice_index (slice_set heads chain (k + 1)) c ≡ last_before (length heads) hashes' c m) one
            (first_by c (omega arith) (slice_index hashes' k % length heads == c) refl));
        next = λ i below. subst (λ (m : ℕ). slice_index links' i ≡ last_before m hashes' (slice_index hashes' i % m) i) (sym size) (next_by i below);
      }

  pub linked_step : Linked (k + 1) hashes' links' (slice_set heads chain (k + 1))
  unfolding heads'
  linked_step = linked_by (length heads) refl

pub linked_push : (k : ℕ) (hashes links heads : List ℕ) (hash next : ℕ) → Linked k hashes links heads → length hashes ≡ k → length links ≡ k → hash % length heads < length heads → next ≡ slice_index heads (hash % length heads) → Linked (k + 1) (hashes ++ hash ∷ []) (links ++ next ∷ []) (slice_set heads (hash % length heads) (k + 1))
linked_push k hashes links heads hash next l hashes_len links_len lt next_is =
    let last : slice_index (hashes ++ hash ∷ []) k ≡ hash = get_or_push hashes hash 0 k hashes_len in
    let last_link : slice_index (links ++ next ∷ []) k ≡ next = get_or_push links next 0 k links_len in
    linked_step k hashes links heads l (hashes ++ hash ∷ []) (links ++ next ∷ []) (hash % length heads) (ap (λ h. h % length heads) (sym last)) lt (last_link ∙ next_is)
    (λ i less. get_or_append_left hashes (hash ∷ []) 0 i (omega arith)) (λ i less. get_or_append_left links (next ∷ []) 0 i (omega arith))

pub linked_append : (hashes links heads hashes' links' : List ℕ) (hash count : ℕ) → Linked (length hashes) hashes links heads → length links ≡ length hashes → hash % length heads < length heads
    → hashes' ≡ hashes ++ hash ∷ [] → links' ≡ links ++ slice_index heads (hash % length heads) ∷ [] → count ≡ length hashes
    → Linked (length hashes + 1) hashes' links' (slice_set heads (hash % length heads) (count + 1))
linked_append hashes links heads hashes' links' hash count l size lt hashes_are links_are count_is =
    rw (hashes_are, links_are, count_is) (linked_push (length hashes) hashes links heads hash (slice_index heads (hash % length heads)) l refl size lt refl)

-- no place yet
pub linked_none : (hashes links : List ℕ) (chains : ℕ) → 0 < chains → Linked 0 hashes links (replicate chains 0)
linked_none hashes links chains some =
    let len : length (replicate {A = ℕ} chains 0) ≡ chains = length-replicate {A = ℕ} chains 0 in
    record {
      some = rw len some;
      first = λ c below. let lt : c < chains = rw len at below in get_or-replicate chains c 0 0 lt;
      next = λ i below. absurd (omega arith);
    }
