-- What the chains of rows say, and that they stay right when one more place is linked.
use Rattle.std.proofs.Common.{◌≡◌, ◌≢◌, ◌∙◌, sym, ap, subst, refl, ℕ, zero, suc, ◌+◌, ◌-◌, ◌%◌, ◌<◌, ◌≤◌, inl, inr, Bool, true, false, cond, eqb, List, [], ◌∷◌, ◌++◌, length, get_or, set, replicate, pos, arith}
use Rattle.std.specs.List.{Contains}
use Rattle.std.proofs.lemmas.Bool.{cases_lt, cases_eq, eqb-true, eqb-false, eq-eqb, ne_eqb}
use Rattle.std.proofs.lemmas.List.{get_or_append_left, get_or_push, get_or-set_same, get_or-set_other, get_or-replicate, length-replicate, length-set, length_push, get_or_default, get_or_read}
use Rattle.ip_rows.specs.declared.rows.IpRow.{IpRow}
use Rattle.ip_rows.specs.Programs.{row_at}
use Rattle.ip_reduce.specs.Hashes.{hash_of}
use Rattle.ip_reduce.specs.Chains.{last_before, AreLinked, Linked, Seeking}

-- what is true of the last place below k of a chain
pub record IsLast (chains : ℕ) (hashes : List ℕ) (chain k link : ℕ) : Type 0 where
  pub below : link ≤ k
  pub hashed : 0 < link → get_or hashes (link - 1) 0 % chains ≡ chain
  pub none : (i : ℕ) → link ≤ i → i < k → get_or hashes i 0 % chains ≢ chain

last_step : (chains : ℕ) (hashes : List ℕ) (chain k link : ℕ) → IsLast chains hashes chain k link → (b : Bool) → eqb (get_or hashes k 0 % chains) chain ≡ b → IsLast chains hashes chain (suc k) (cond b (suc k) link)
last_step chains hashes chain k link last true e =
    let here : k ≡ suc k - 1 = omega arith in
    record {
      below = omega arith;
      hashed = λ some. subst (λ j. get_or hashes j 0 % chains ≡ chain) here (eqb-true (get_or hashes k 0 % chains) chain e);
      none = λ i from lt. absurd (omega arith);
    }
last_step chains hashes chain k link last false e = record {
  below = omega (arith, last.below);
  hashed = last.hashed;
  none = λ i from lt same. elim (cases_lt i k) [
    | inl less ↦ last.none i from less same
    | inr more ↦
        let here : i ≡ k = omega arith in
        eqb-false (get_or hashes k 0 % chains) chain e (subst (λ j. get_or hashes j 0 % chains ≡ chain) here same)
  ];
}

pub last_is : (chains : ℕ) (hashes : List ℕ) (chain k : ℕ) → IsLast chains hashes chain k (last_before chains hashes chain k)
last_is chains hashes chain zero = record { below = omega arith; hashed = λ some. absurd (omega arith); none = λ i from lt. absurd (omega arith) }
last_is chains hashes chain (suc k) = last_step chains hashes chain k (last_before chains hashes chain k) (last_is chains hashes chain k) (eqb (get_or hashes k 0 % chains) chain) refl

-- the chains below k depend on the hashes below k alone
last_same : (chains : ℕ) (hashes more : List ℕ) (chain k : ℕ) → ((i : ℕ) → i < k → get_or more i 0 ≡ get_or hashes i 0) → last_before chains more chain k ≡ last_before chains hashes chain k
last_same chains hashes more chain zero same = refl
last_same chains hashes more chain (suc k) same =
    let rest : last_before chains more chain k ≡ last_before chains hashes chain k = last_same chains hashes more chain k (λ i lt. same i (omega arith)) in
    ap (λ h. cond (eqb (h % chains) chain) (suc k) (last_before chains more chain k)) (same k (omega arith)) ∙ ap (λ n. cond (eqb (get_or hashes k 0 % chains) chain) (suc k) n) rest

-- ---- the search

seek_from : (rows : List IpRow) (hashes links heads : List ℕ) (sought : IpRow) (chain k link : ℕ) → AreLinked rows hashes links heads → chain ≡ hash_of sought % length heads → k ≤ length rows
    → link ≡ last_before (length heads) hashes chain k → ((i : ℕ) → k ≤ i → i < length rows → row_at rows i ≢ sought) → Seeking rows hashes (length heads) sought link
seek_from rows hashes links heads sought chain k link kept chain_is le link_is rest =
    let last : IsLast (length heads) hashes chain k link = subst (λ n. IsLast (length heads) hashes chain k n) (sym link_is) (last_is (length heads) hashes chain k) in
    record {
      within = omega (arith, last.below);
      beyond = λ i from lt same. elim (cases_lt i k) [
        | inl less ↦ last.none i from less (ap (λ h. h % length heads) (kept.hashed i lt ∙ ap hash_of same) ∙ sym chain_is)
        | inr more ↦ rest i more lt same
      ];
      hashed = λ some. last.hashed some ∙ chain_is;
    }

pub seek_begins : (rows : List IpRow) (hashes links heads : List ℕ) (sought : IpRow) (hash link : ℕ) → AreLinked rows hashes links heads → hash ≡ hash_of sought → hash % length heads < length heads → link ≡ get_or heads (hash % length heads) 0 → Seeking rows hashes (length heads) sought link
seek_begins rows hashes links heads sought hash link kept hash_is lt link_is =
    seek_from rows hashes links heads sought (hash % length heads) (length rows) link kept (ap (λ h. h % length heads) hash_is) (omega arith) (link_is ∙ kept.linked.first (hash % length heads) lt) (λ i from less. absurd (omega arith))

pub seek_goes_on : (rows : List IpRow) (hashes links heads : List ℕ) (sought : IpRow) (link next : ℕ) → AreLinked rows hashes links heads → Seeking rows hashes (length heads) sought link → 0 < link → row_at rows (link - 1) ≢ sought → next ≡ get_or links (link - 1) 0 → Seeking rows hashes (length heads) sought next
seek_goes_on rows hashes links heads sought link next kept state some other next_is =
    seek_from rows hashes links heads sought (get_or hashes (link - 1) 0 % length heads) (link - 1) next kept (state.hashed some) (omega (arith, state.within)) (next_is ∙ kept.linked.next (link - 1) (omega (arith, state.within)))
    (λ i from lt same. elim (cases_lt i link) [
      | inl less ↦ let here : i ≡ link - 1 = omega arith in other (subst (λ j. row_at rows j ≡ sought) here same)
      | inr more ↦ state.beyond i more lt same
    ])

pub next_falls : (rows : List IpRow) (hashes links heads : List ℕ) (i : ℕ) → AreLinked rows hashes links heads → i < length rows → get_or links i 0 ≤ i
next_falls rows hashes links heads i kept lt =
    subst (λ n. n ≤ i) (sym (kept.linked.next i lt)) (last_is (length heads) hashes (get_or hashes i 0 % length heads) i).below

-- where a search found nothing, no row is the sought one
pub not_there : (rows : List IpRow) (hashes : List ℕ) (chains : ℕ) (sought : IpRow) (link : ℕ) → link ≡ 0 → Seeking rows hashes chains sought link → Contains rows sought → ⊥
not_there rows hashes chains sought link none state h = state.beyond h.0 (omega arith) h.1 (get_or_default rows h.0 (record { terms = []; least = pos 0 }) sought h.1 ∙ h.2)

-- a row that was read is among the rows
pub is_there : (rows : List IpRow) (at : ℕ) (row sought : IpRow) → at < length rows → row ≡ get_or rows at row → row ≡ sought → Contains rows sought
is_there rows at row sought lt is same = subst (λ r. Contains rows r) same (at, lt, sym is)

-- the hash beside a row that was read
module _ (rows : List IpRow) (hashes links heads : List ℕ) (at : ℕ) (row : IpRow) (kept : AreLinked rows hashes links heads) (lt : at < length rows) (is : row ≡ get_or rows at row) where
  pub read_row : row ≡ row_at rows at
  read_row = get_or_read rows at row lt is (record { terms = []; least = pos 0 })

  pub read_hash : get_or hashes at 0 ≡ hash_of row
  read_hash = kept.hashed at lt ∙ ap hash_of (sym read_row)

pub linked_by : (rows : List IpRow) (hashes links heads hashes' links' heads' : List ℕ) → hashes' ≡ hashes → links' ≡ links → heads' ≡ heads → AreLinked rows hashes links heads → AreLinked rows hashes' links' heads'
linked_by rows hashes links heads hashes' links' heads' one two three kept = rw (one, two, three) kept

pub links_of : (rows : List IpRow) (hashes links heads heads' : List ℕ) → heads' ≡ heads → AreLinked rows hashes links heads → Linked (length hashes) hashes links heads'
links_of rows hashes links heads heads' is kept = subst (λ (hs : List ℕ). Linked (length hashes) hashes links hs) (sym is) (subst (λ n. Linked n hashes links heads) (sym kept.hashes_size) kept.linked)

-- ---- one more place

module _ (k : ℕ) (hashes links heads : List ℕ) (hash next : ℕ) (state : Linked k hashes links heads) (hashes_size : length hashes ≡ k) (links_size : length links ≡ k)
    (lt : hash % length heads < length heads) (next_is : next ≡ get_or heads (hash % length heads) 0) where
  abbrev more : List ℕ
  more = hashes ++ hash ∷ []

  abbrev links' : List ℕ
  links' = links ++ next ∷ []

  abbrev chain : ℕ
  chain = hash % length heads

  abbrev heads' : List ℕ
  heads' = set heads chain (k + 1)

  hash_here : get_or more k 0 ≡ hash
  hash_here = get_or_push hashes hash 0 k hashes_size

  same_hashes : (i : ℕ) → i < k → get_or more i 0 ≡ get_or hashes i 0
  same_hashes i less = get_or_append_left hashes (hash ∷ []) 0 i (omega arith)

  same_links : (i : ℕ) → i < k → get_or links' i 0 ≡ get_or links i 0
  same_links i less = get_or_append_left links (next ∷ []) 0 i (omega arith)

  first_by : (c : ℕ) → c < length heads → get_or heads' c 0 ≡ last_before (length heads) more c (suc k)
  first_by c below = elim (cases_eq c chain) [
    | inl same ↦
        let test : eqb (get_or more k 0 % length heads) c ≡ true = eq-eqb (get_or more k 0 % length heads) c (ap (λ h. h % length heads) hash_here ∙ sym same) in
        ap (λ d. get_or heads' d 0) same ∙ get_or-set_same heads chain (k + 1) 0 lt ∙ add_one ∙ ap (λ b. cond b (suc k) (last_before (length heads) more c k)) (sym test)
    | inr other ↦
        let test : eqb (get_or more k 0 % length heads) c ≡ false = ne_eqb (get_or more k 0 % length heads) c (λ e. other (sym e ∙ ap (λ h. h % length heads) hash_here)) in
        get_or-set_other heads chain c (k + 1) 0 other ∙ state.first c below ∙ sym (last_same (length heads) hashes more c k same_hashes) ∙ ap (λ b. cond b (suc k) (last_before (length heads) more c k)) (sym test)
  ]
    where
      add_one : k + 1 ≡ suc k
      add_one = omega arith

  next_by : (i : ℕ) → i < k + 1 → get_or links' i 0 ≡ last_before (length heads) more (get_or more i 0 % length heads) i
  next_by i below = elim (cases_lt i k) [
    | inl less ↦
        same_links i less ∙ state.next i less ∙ ap (λ h. last_before (length heads) hashes (h % length heads) i) (sym (same_hashes i less))
        ∙ sym (last_same (length heads) hashes more (get_or more i 0 % length heads) i (λ j before. same_hashes j (omega arith)))
    | inr late ↦
        let here : k ≡ i = omega arith in
        subst (λ j. get_or links' j 0 ≡ last_before (length heads) more (get_or more j 0 % length heads) j) here
        (get_or_push links next 0 k links_size ∙ next_is ∙ state.first chain lt ∙ sym (last_same (length heads) hashes more chain k same_hashes) ∙ ap (λ h. last_before (length heads) more (h % length heads) k) (sym hash_here))
  ]

  pub linked_push : Linked (k + 1) more links' heads'
  linked_push =
      let size : length heads' ≡ length heads = length-set heads chain (k + 1) in
      let one : suc k ≡ k + 1 = omega arith in
      record {
        some = omega (arith, state.some, size);
        first = λ c below.
            subst (λ m. get_or heads' c 0 ≡ last_before m more c (k + 1)) (sym size)
            (subst (λ m. get_or heads' c 0 ≡ last_before (length heads) more c m) one (first_by c (omega arith)));
        next = λ i below. subst (λ m. get_or links' i 0 ≡ last_before m more (get_or more i 0 % m) i) (sym size) (next_by i below);
      }

pub linked_append : (hashes links heads hashes' links' : List ℕ) (hash count : ℕ) → Linked (length hashes) hashes links heads → length links ≡ length hashes → hash % length heads < length heads
    → hashes' ≡ hashes ++ hash ∷ [] → links' ≡ links ++ get_or heads (hash % length heads) 0 ∷ [] → count ≡ length hashes
    → Linked (length hashes + 1) hashes' links' (set heads (hash % length heads) (count + 1))
linked_append hashes links heads hashes' links' hash count state size lt hashes_are links_are count_is =
    rw (hashes_are, links_are, count_is) (linked_push (length hashes) hashes links heads hash (get_or heads (hash % length heads) 0) state refl size lt refl)

-- no row yet
pub linked_none : (hashes links heads : List ℕ) (chains : ℕ) → hashes ≡ [] → links ≡ [] → heads ≡ replicate (chains + 1) 0 → AreLinked [] hashes links heads
linked_none hashes links heads chains no_hashes no_links are =
    let len : length heads ≡ chains + 1 = ap (λ (hs : List ℕ). length hs) are ∙ length-replicate (chains + 1) 0 in
    record {
      hashes_size = ap (λ (hs : List ℕ). length hs) no_hashes;
      links_size = ap (λ (ls : List ℕ). length ls) no_links;
      hashed = λ i below. absurd (omega arith);
      linked = record {
        some = omega arith;
        first = λ c below. ap (λ (hs : List ℕ). get_or hs c 0) are ∙ get_or-replicate (chains + 1) c 0 0 (omega arith);
        next = λ i below. absurd (omega arith);
      };
    }

-- one more row
pub linked_more : (rows : List IpRow) (row : IpRow) (hashes links heads hashes' links' heads' : List ℕ) (hash : ℕ) → AreLinked rows hashes links heads → hash ≡ hash_of row
    → hashes' ≡ hashes ++ hash ∷ [] → length links' ≡ length hashes + 1 → Linked (length hashes + 1) hashes' links' heads' → AreLinked (rows ++ row ∷ []) hashes' links' heads'
linked_more rows row hashes links heads hashes' links' heads' hash state hash_is are size linked =
    let more : length (rows ++ row ∷ []) ≡ length rows + 1 = length_push rows row in
    let longer : length hashes' ≡ length hashes + 1 = ap (λ (hs : List ℕ). length hs) are ∙ length_push hashes hash in
    let same = state.hashes_size in
    record {
      hashes_size = omega arith;
      links_size = omega arith;
      hashed = λ i below. elim (cases_lt i (length rows)) [
        | inl less ↦
            ap (λ (hs : List ℕ). get_or hs i 0) are ∙ get_or_append_left hashes (hash ∷ []) 0 i (omega arith) ∙ state.hashed i less
            ∙ ap hash_of (sym (get_or_append_left rows (row ∷ []) (record { terms = []; least = pos 0 }) i less))
        | inr late ↦
            let end : length hashes ≡ i = omega arith in
            let end_row : length rows ≡ i = omega arith in
            ap (λ (hs : List ℕ). get_or hs i 0) are ∙ get_or_push hashes hash 0 i end ∙ hash_is ∙ ap hash_of (sym (get_or_push rows row (record { terms = []; least = pos 0 }) i end_row))
      ];
      linked = subst (λ n. Linked n hashes' links' heads') (let s = same in omega arith) linked;
    }
