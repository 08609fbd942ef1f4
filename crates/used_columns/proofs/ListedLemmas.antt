-- What the columns stand for, one by one: no two stand for the same, and the world's come first.
use Rattle.std.proofs.Common.{◌≡◌, ◌≢◌, ◌∙◌, sym, ap, subst, refl, ℕ, zero, suc, ◌+◌, ◌-◌, ◌<◌, ◌≤◌, if◌then◌else◌, cond, Bool, true, false, ⊎_elim, List, [], ◌∷◌, ◌++◌, length, map, get_or, All, Contains, arith}
use Rattle.std.specs.List.{flat_map, range_with_len, count_by}
use Rattle.std.proofs.lemmas.Bool.{cases_lt}
use Rattle.std.proofs.lemmas.List.{length-append, get_or_append_left, get_or-append_right, get_or_default}
use Rattle.std.proofs.lemmas.List.Sums.{sum_by-cons}
use Rattle.std.proofs.lemmas.List.Elements.{All-append, All-map, Contains-append_left, Contains-append_right}
use Rattle.std.proofs.lemmas.List.FromFn.{length-range_with_len, get_or-range_with_len, length-map-range_with_len, get_or-map-range_with_len}
use Rattle.prov_arena.specs.Formulas.{Formula, FalseNode, TrueNode, PresNode, CellNode, PosNode, NotNode, AndNode, OrNode, LinNode, GuardNode, AbsNode, TotNode, MinNode}
use Rattle.prov_fold.specs.Graphs.{Graph, node, size}
use Rattle.bool_encode.specs.declared.stand.Stand.{Stand}
use Rattle.bool_encode.specs.declared.stand.Stand.TheVariants as stand
use Rattle.bool_encode.specs.Stands.{stand_at}
use Rattle.bool_encode.specs.Points.{HasPairAt}
use Rattle.whole_points.specs.Matched.{has_column, is_world, world_count}
use Rattle.used_columns.specs.Used.{mark_at}
use Rattle.used_columns.specs.Columns.{own_stands, marked_stands, stands_for}

one_of : (P : Stand → Type 0) (s : Stand) → P s → All P (s ∷ [])
one_of P s p zero d lt = p
one_of P s p (suc j) d lt = absurd (omega arith)

none_of : (P : Stand → Type 0) → All P []
none_of P j d lt = absurd (omega arith)

both_of : (P : Stand → Type 0) (s : Stand) (ss : List Stand) → P s → All P ss → All P (s ∷ ss)
both_of P s ss p h zero d lt = p
both_of P s ss p h (suc j) d lt = h j d (omega arith)

pub range_all : (P : ℕ → Type 0) (a n : ℕ) → ((k : ℕ) → a ≤ k → k < a + n → P k) → All P (range_with_len a n)
range_all P a n h j d lt =
    let less : j < n = omega (arith, lt, length-range_with_len a n) in
    subst P (sym (get_or-range_with_len a n j d less)) (h (a + j) (omega arith) (omega (arith, less)))

range_has : (a n k : ℕ) → a ≤ k → k < a + n → Contains (range_with_len a n) k
range_has a n k le lt = (k - a, omega (arith, lt, le, length-range_with_len a n), get_or-range_with_len a n (k - a) k (omega (arith, lt, le)) ∙ omega (arith, le))

flat_all : (P : Stand → Type 0) (f : ℕ → List Stand) (xs : List ℕ) → All (λ x. All P (f x)) xs → All P (flat_map f xs)
flat_all P f [] h = none_of P
flat_all P f (x ∷ xs) h = All-append P (f x) (flat_map f xs) (h 0 0 (omega arith)) (flat_all P f xs (λ j d lt. h (suc j) d (omega arith)))

pub flat_has : {X : Type 0} (f : ℕ → List X) (xs : List ℕ) (x : ℕ) (s : X) → Contains xs x → Contains (f x) s → Contains (flat_map f xs) s
flat_has f [] x s (k, lt, e) c = absurd (omega arith)
flat_has f (y ∷ ys) x s (zero, lt, e) c = Contains-append_left (f y) (flat_map f ys) s (subst (λ z. Contains (f z) s) (sym e) c)
flat_has f (y ∷ ys) x s (suc k, lt, e) c = Contains-append_right (f y) (flat_map f ys) s (flat_has f ys x s (k, omega arith, e) c)

-- ---- the columns of one node

-- what holds of a node's own column and of its selectors holds of its columns
pub own_by : (P : Stand → Type 0) (z : ℕ) (m : Formula) → (has_column m ≡ true → P (stand.Node z)) → ((pair : ℕ) → HasPairAt pair m → P (stand.Selector z pair)) → All P (own_stands z m)
own_by P z FalseNode h s = none_of P
own_by P z TrueNode h s = none_of P
own_by P z (PresNode c) h s = none_of P
own_by P z (CellNode c) h s = none_of P
own_by P z (PosNode n) h s = one_of P (stand.Node z) (h refl)
own_by P z (NotNode t) h s = none_of P
own_by P z (AndNode kids) h s = one_of P (stand.Node z) (h refl)
own_by P z (OrNode kids) h s = one_of P (stand.Node z) (h refl)
own_by P z (LinNode c terms) h s = none_of P
own_by P z (GuardNode t n) h s = one_of P (stand.Node z) (h refl)
own_by P z (AbsNode n) h s = one_of P (stand.Node z) (h refl)
own_by P z (TotNode n) h s = one_of P (stand.Node z) (h refl)
own_by P z (MinNode pairs) h s =
    both_of P (stand.Node z) (map (λ pair. stand.Selector z pair) (range_with_len 0 (length pairs))) (h refl)
    (All-map P (λ pair. stand.Selector z pair) (range_with_len 0 (length pairs)) (range_all (λ pair. P (stand.Selector z pair)) 0 (length pairs) (λ pair le lt. s pair (omega (arith, lt)))))

own_has : (z : ℕ) (m : Formula) → has_column m ≡ true → Contains (own_stands z m) (stand.Node z)
own_has z FalseNode e = cc
own_has z TrueNode e = cc
own_has z (PresNode c) e = cc
own_has z (CellNode c) e = cc
own_has z (PosNode n) e = (0, omega arith, refl)
own_has z (NotNode t) e = cc
own_has z (AndNode kids) e = (0, omega arith, refl)
own_has z (OrNode kids) e = (0, omega arith, refl)
own_has z (LinNode c terms) e = cc
own_has z (GuardNode t n) e = (0, omega arith, refl)
own_has z (AbsNode n) e = (0, omega arith, refl)
own_has z (TotNode n) e = (0, omega arith, refl)
own_has z (MinNode pairs) e = (0, omega arith, refl)

pair_has : (z pair : ℕ) (m : Formula) → HasPairAt pair m → Contains (own_stands z m) (stand.Selector z pair)
pair_has z pair (MinNode pairs) lt =
    let long = length-map-range_with_len (λ pair. stand.Selector z pair) 0 (length pairs) in
    (suc pair, omega (arith, lt, long), get_or-map-range_with_len (λ pair. stand.Selector z pair) 0 (length pairs) pair pair (stand.Selector z pair) lt (omega arith))
pair_has z pair FalseNode h = absurd h
pair_has z pair TrueNode h = absurd h
pair_has z pair (PresNode c) h = absurd h
pair_has z pair (CellNode c) h = absurd h
pair_has z pair (PosNode n) h = absurd h
pair_has z pair (NotNode t) h = absurd h
pair_has z pair (AndNode kids) h = absurd h
pair_has z pair (OrNode kids) h = absurd h
pair_has z pair (LinNode c terms) h = absurd h
pair_has z pair (GuardNode t n) h = absurd h
pair_has z pair (AbsNode n) h = absurd h
pair_has z pair (TotNode n) h = absurd h

-- ---- no two are the same

abbrev pub Apart : List Stand → Type 0
Apart ss = (i j : ℕ) → i < j → j < length ss → stand_at ss i ≢ stand_at ss j

-- by what columns rise: the world's first, then each node's
abbrev pub rank : Stand → ℕ
rank (stand.World number) = 0
rank (stand.Node z) = suc z
rank (stand.Selector z pair) = suc z

abbrev pub pair_in : Stand → ℕ
pair_in (stand.Selector z pair) = suc pair
pair_in _ = 0

abbrev pub number_in : Stand → ℕ
number_in (stand.World number) = number
number_in _ = 0

apart_both : (n : ℕ) (xs ys : List Stand) → All (λ s. rank s < n) xs → All (λ s. n ≤ rank s) ys → Apart xs → Apart ys → Apart (xs ++ ys)
apart_both n xs ys low high p q i j less lt e =
    let long = length-append xs ys in
    ⊎_elim
    (λ left. p i j less left (sym (get_or_append_left xs ys (stand.World 0) i (omega (arith, left, less))) ∙ e ∙ get_or_append_left xs ys (stand.World 0) j left))
    (λ right. ⊎_elim
    (λ left.
    let same : get_or xs i (stand.World 0) ≡ get_or ys (j - length xs) (stand.World 0) = sym (get_or_append_left xs ys (stand.World 0) i left) ∙ e ∙ get_or-append_right xs ys (length xs) j (stand.World 0) refl right in
    let small = low i (stand.World 0) left in
    let large = high (j - length xs) (stand.World 0) (omega (arith, lt, long, right)) in
    let ranks : rank (get_or xs i (stand.World 0)) ≡ rank (get_or ys (j - length xs) (stand.World 0)) = ap rank same in
    absurd (omega (arith, small, large, ranks)))
    (λ past.
    q (i - length xs) (j - length xs) (omega (arith, less, past, right)) (omega (arith, lt, long, right))
    (sym (get_or-append_right xs ys (length xs) i (stand.World 0) refl past) ∙ e ∙ get_or-append_right xs ys (length xs) j (stand.World 0) refl right))
    (cases_lt i (length xs)))
    (cases_lt j (length xs))

apart_none : Apart []
apart_none i j less lt e = absurd (omega arith)

apart_one : (s : Stand) → Apart (s ∷ [])
apart_one s i j less lt e = absurd (omega arith)

-- what a number in the stand tells apart
apart_map : (f : ℕ → Stand) (number : Stand → ℕ) (n : ℕ) → ((k : ℕ) → number (f k) ≡ k) → Apart (map f (range_with_len 0 n))
apart_map f number n tells i j less lt e =
    let long = length-map-range_with_len f 0 n in
    let here : get_or (map f (range_with_len 0 n)) i (stand.World 0) ≡ f i = get_or-map-range_with_len f 0 n i i (stand.World 0) (omega (arith, less, lt, long)) (omega arith) in
    let there : get_or (map f (range_with_len 0 n)) j (stand.World 0) ≡ f j = get_or-map-range_with_len f 0 n j j (stand.World 0) (omega (arith, lt, long)) (omega arith) in
    let same : i ≡ j = sym (tells i) ∙ ap number (sym here ∙ e ∙ there) ∙ tells j in
    omega (arith, same, less)

apart_front : (s : Stand) (ss : List Stand) → All (λ t. s ≢ t) ss → Apart ss → Apart (s ∷ ss)
apart_front s ss other p zero zero less lt e = absurd (omega arith)
apart_front s ss other p zero (suc j) less lt e = other j (stand.World 0) (omega arith) e
apart_front s ss other p (suc i) zero less lt e = absurd (omega arith)
apart_front s ss other p (suc i) (suc j) less lt e = p i j (omega arith) (omega arith) e

node_apart : (z pair : ℕ) → stand.Node z ≢ stand.Selector z pair
node_apart z pair e = let no : 0 ≡ suc pair = ap pair_in e in omega (arith, no)

apart_own : (z : ℕ) (m : Formula) → Apart (own_stands z m)
apart_own z FalseNode = apart_none
apart_own z TrueNode = apart_none
apart_own z (PresNode c) = apart_none
apart_own z (CellNode c) = apart_none
apart_own z (PosNode n) = apart_one (stand.Node z)
apart_own z (NotNode t) = apart_none
apart_own z (AndNode kids) = apart_one (stand.Node z)
apart_own z (OrNode kids) = apart_one (stand.Node z)
apart_own z (LinNode c terms) = apart_none
apart_own z (GuardNode t n) = apart_one (stand.Node z)
apart_own z (AbsNode n) = apart_one (stand.Node z)
apart_own z (TotNode n) = apart_one (stand.Node z)
apart_own z (MinNode pairs) =
    let f : ℕ → Stand = λ pair. stand.Selector z pair in
    apart_front (stand.Node z) (map f (range_with_len 0 (length pairs)))
    (All-map (λ t. stand.Node z ≢ t) f (range_with_len 0 (length pairs)) (range_all (λ pair. stand.Node z ≢ stand.Selector z pair) 0 (length pairs) (λ pair le lt. node_apart z pair)))
    (apart_map f pair_before (length pairs) (λ k. refl))
  where
    pair_before : Stand → ℕ
    pair_before (stand.Selector z pair) = pair
    pair_before _ = 0

module _ (g : Graph) (used : List Bool) where
  abbrev own : ℕ → List Stand
  own = marked_stands g used

  -- what holds of the columns of each marked node holds of all
  by_mark : (P : List Stand → Type 0) (z : ℕ) (b : Bool) → mark_at used z ≡ b → (mark_at used z ≡ true → P (own_stands z (node g z))) → P [] → P (own z)
  by_mark P z true e some none = subst (λ b. P (if b then own_stands z (node g z) else [])) (sym e) (some e)
  by_mark P z false e some none = subst (λ b. P (if b then own_stands z (node g z) else [])) (sym e) none

  pub own_all : (P : Stand → Type 0) (z : ℕ) → (mark_at used z ≡ true → has_column (node g z) ≡ true → P (stand.Node z)) → (mark_at used z ≡ true → (pair : ℕ) → HasPairAt pair (node g z) → P (stand.Selector z pair)) → All P (own z)
  own_all P z h s = by_mark (All P) z (mark_at used z) refl (λ e. own_by P z (node g z) (h e) (s e)) (none_of P)

  own_rank : (z : ℕ) → All (λ s. rank s ≡ suc z) (own z)
  own_rank z = own_all (λ s. rank s ≡ suc z) z (λ e h. refl) (λ e pair h. refl)

  from_rank : (a n : ℕ) → All (λ s. suc a ≤ rank s) (flat_map own (range_with_len a n))
  from_rank a n = flat_all (λ s. suc a ≤ rank s) own (range_with_len a n) (range_all (λ z. All (λ s. suc a ≤ rank s) (own z)) a n (λ z le lt j d less. let is = own_rank z j d less in omega (arith, is, le)))

  apart_from : (a n : ℕ) → Apart (flat_map own (range_with_len a n))
  apart_from a zero = apart_none
  apart_from a (suc n) =
      apart_both (suc (suc a)) (own a) (flat_map own (range_with_len (a + 1) n)) (λ j d lt. let is = own_rank a j d lt in omega (arith, is)) (λ j d lt. let le = from_rank (a + 1) n j d lt in omega (arith, le))
      (by_mark Apart a (mark_at used a) refl (λ e. apart_own a (node g a)) apart_none) (apart_from (a + 1) n)

  module _ (worlds : ℕ) where
    abbrev firsts : List Stand
    firsts = map (λ number. stand.World number) (range_with_len 0 worlds)

    abbrev rest : List Stand
    rest = flat_map own (range_with_len 0 (size g))

    firsts_rank : All (λ s. rank s < 1) firsts
    firsts_rank = All-map (λ s. rank s < 1) (λ number. stand.World number) (range_with_len 0 worlds) (range_all (λ number. 0 < 1) 0 worlds (λ k le lt. omega arith))

    pub apart_stands : Apart (stands_for g worlds used)
    unfolding stands_for
    apart_stands = apart_both 1 firsts rest firsts_rank (from_rank 0 (size g)) (apart_map (λ number. stand.World number) number_in worlds (λ k. refl)) (apart_from 0 (size g))

    firsts_long : length firsts ≡ worlds
    firsts_long = length-map-range_with_len (λ number. stand.World number) 0 worlds

    pub worlds_within : worlds ≤ length (stands_for g worlds used)
    unfolding stands_for
    worlds_within = let long = firsts_long in let both = length-append firsts rest in omega (arith, long, both)

    -- the first are the world's, in order
    pub world_at : (number : ℕ) → number < worlds → stand_at (stands_for g worlds used) number ≡ stand.World number
    unfolding stands_for
    world_at number lt =
        let long = firsts_long in
        get_or_append_left firsts rest (stand.World 0) number (omega (arith, lt, long)) ∙ get_or-map-range_with_len (λ number. stand.World number) 0 worlds number number (stand.World 0) lt (omega arith)

    pub none_behind : (number other : ℕ) → worlds ≤ number → number < length (stands_for g worlds used) → stand_at (stands_for g worlds used) number ≡ stand.World other → ⊥
    unfolding stands_for
    none_behind number other le lt e =
        let long = firsts_long in
        let both = length-append firsts rest in
        let at : get_or (firsts ++ rest) number (stand.World 0) ≡ get_or rest (number - length firsts) (stand.World 0) = get_or-append_right firsts rest (length firsts) number (stand.World 0) refl (omega (arith, le, long)) in
        let high = from_rank 0 (size g) (number - length firsts) (stand.World 0) (omega (arith, lt, both, le, long)) in
        let is : rank (get_or rest (number - length firsts) (stand.World 0)) ≡ 0 = ap rank (sym at ∙ e) in
        absurd (omega (arith, high, is))

    -- what each of them is
    abbrev pub Listed : Stand → Type 0
    Listed (stand.World number) = number < worlds
    Listed (stand.Node z) = (z < size g) × (mark_at used z ≡ true) × (has_column (node g z) ≡ true)
    Listed (stand.Selector z pair) = (z < size g) × (mark_at used z ≡ true) × HasPairAt pair (node g z)

    pub listed : All Listed (stands_for g worlds used)
    unfolding stands_for
    listed =
        All-append Listed firsts rest (All-map Listed (λ number. stand.World number) (range_with_len 0 worlds) (range_all (λ number. number < worlds) 0 worlds (λ k le lt. omega (arith, lt))))
        (flat_all Listed own (range_with_len 0 (size g)) (range_all (λ z. All Listed (own z)) 0 (size g) (λ z le lt. own_all Listed z (λ e h. (omega (arith, lt), e, h)) (λ e pair h. (omega (arith, lt), e, h)))))

    -- and what is among them
    pub has_world : (number : ℕ) → number < worlds → Contains (stands_for g worlds used) (stand.World number)
    has_world number lt =
        let within = worlds_within in
        let less : number < length (stands_for g worlds used) = omega (arith, lt, within) in
        (number, less, get_or_default (stands_for g worlds used) number (stand.World number) (stand.World 0) less ∙ world_at number lt)

    has_own : (z : ℕ) (s : Stand) → z < size g → mark_at used z ≡ true → Contains (own_stands z (node g z)) s → Contains (stands_for g worlds used) s
    unfolding stands_for
    has_own z s lt e c =
        Contains-append_right firsts rest s (flat_has own (range_with_len 0 (size g)) z s (range_has 0 (size g) z (omega arith) (omega (arith, lt))) (subst (λ b. Contains (if b then own_stands z (node g z) else []) s) (sym e) c))

    pub has_node : (z : ℕ) → z < size g → mark_at used z ≡ true → has_column (node g z) ≡ true → Contains (stands_for g worlds used) (stand.Node z)
    has_node z lt e h = has_own z (stand.Node z) lt e (own_has z (node g z) h)

    pub has_selector : (z pair : ℕ) → z < size g → mark_at used z ≡ true → HasPairAt pair (node g z) → Contains (stands_for g worlds used) (stand.Selector z pair)
    has_selector z pair lt e h = has_own z (stand.Selector z pair) lt e (pair_has z pair (node g z) h)

-- ---- how many are the world's

count_same : (s : Stand) (ss : List Stand) → is_world s ≡ false → count_by (λ s. is_world s) ss ≡ 0 → count_by (λ s. is_world s) (s ∷ ss) ≡ 0
count_same s ss e h =
    let here : count_by (λ s. is_world s) (s ∷ ss) ≡ cond (is_world s) 1 0 + count_by (λ s. is_world s) ss = sum_by-cons (λ s. cond (is_world s) 1 0) s ss in
    let none = ap (λ b. cond {A = ℕ} b 1 0) e in
    omega (arith, here, none, h)

count_none : (ss : List Stand) → All (λ s. 1 ≤ rank s) ss → count_by (λ s. is_world s) ss ≡ 0
count_none [] h = refl
count_none (stand.World number ∷ ss) h = let no : 1 ≤ 0 = h 0 (stand.World 0) (omega arith) in absurd (omega (arith, no))
count_none (stand.Node z ∷ ss) h = count_same (stand.Node z) ss refl (count_none ss (λ j d lt. h (suc j) d (omega arith)))
count_none (stand.Selector z pair ∷ ss) h = count_same (stand.Selector z pair) ss refl (count_none ss (λ j d lt. h (suc j) d (omega arith)))

count_worlds : (a n : ℕ) (ss : List Stand) → count_by (λ s. is_world s) (map (λ number. stand.World number) (range_with_len a n) ++ ss) ≡ n + count_by (λ s. is_world s) ss
count_worlds a zero ss = omega arith
count_worlds a (suc n) ss =
    let rest : List Stand = map (λ number. stand.World number) (range_with_len (a + 1) n) ++ ss in
    let more : count_by (λ s. is_world s) rest ≡ n + count_by (λ s. is_world s) ss = count_worlds (a + 1) n ss in
    let here : count_by (λ s. is_world s) (map (λ number. stand.World number) (range_with_len a (suc n)) ++ ss) ≡ 1 + count_by (λ s. is_world s) rest = sum_by-cons (λ s. cond (is_world s) 1 0) (stand.World a) rest in
    omega (arith, more, here)

pub world_count_is : (g : Graph) (used : List Bool) (worlds : ℕ) → world_count (stands_for g worlds used) ≡ worlds
unfolding stands_for
world_count_is g used worlds =
    let none = count_none (flat_map (marked_stands g used) (range_with_len 0 (size g))) (from_rank g used 0 (size g)) in
    let some = count_worlds 0 worlds (flat_map (marked_stands g used) (range_with_len 0 (size g))) in
    omega (arith, none, some)
