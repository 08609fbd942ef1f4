-- what it is to read exactly what a rule of the grammar derives
use Rattle.std.proofs.Common.{◌≡◌, ℕ, suc, Bool, false, cond, List, [], ◌∷◌, ◌++◌, length, map, drop, codes, refl, sym, ◌∙◌, ap, arith, Result, Ok, Err}
use Rattle.std.proofs.lemmas.List.{length-append}
use Rattle.std.specs.declared.option.Option.{Option}
use Rattle.std.specs.declared.option.Option.TheVariants.{None, Some}
use Rattle.base_kit.specs.Names.{is_name}
use Rattle.tiql_lex.specs.declared.token.TokenKind.{TokenKind}
use Rattle.tiql_lex.specs.declared.token.TokenKind.TheVariants.{Name, Keyword, Number, Text, Sign}
use Rattle.tiql_lex.specs.Kinds.{is_number}
use Rattle.tiql_tree.specs.Words.{Word, named, digits, in_quotes}
use Rattle.tiql_tree.specs.Trees.{Places}
use Rattle.tiql_read.specs.declared.word.Seen.{Seen}
use Rattle.tiql_read.specs.Steps.{Words, Reading, word_of}
use Rattle.tiql_read.specs.Expressions.{value_of_text}

abbrev pub ws : Words → List Word
ws words = map word_of words

abbrev pub ps : Words → Places
ps words = map (λ seen. seen.place) words

abbrev pub text_or : Word → Option (List ℕ) → Word
text_or word None = in_quotes []
text_or word (Some value) = word

abbrev pub fixed_by : TokenKind → Word → Word
fixed_by Name word = cond (is_name word.text) word (named (codes "a"))
fixed_by Keyword word = word
fixed_by Number word = cond (is_number word.text) word (digits (codes "0"))
fixed_by Text word = text_or word (value_of_text word.text)
fixed_by Sign word = word

-- the word, or where no token is that word another one of its kind
abbrev pub fixed : Word → Word
fixed word = fixed_by word.kind word

-- words that some tokens are
abbrev pub Fine : Words → Type 0
Fine [] = Unit {0}
Fine (seen ∷ words) = (fixed (word_of seen) ≡ word_of seen) × Fine words

-- there is a first word, and it passes the test
abbrev pub starts : (Word → Bool) → List Word → Bool
starts test [] = false
starts test (word ∷ words) = test word

abbrev pub none : Word → Bool
none word = false

pub record Repaired {D : Type 0} (w : D → List Word) (ok : D → Type 0) (d : D) : Type 0 where
  pub other : D
  pub good : ok other
  pub words : w other ≡ map fixed (w d)

pub record Stopped {D : Type 0} (w : D → List Word) (ok : D → Type 0) (v : Words) (left : ℕ) : Type 0 where
  pub front : Words
  pub rest : Words
  pub split : v ≡ front ++ rest
  pub size : length rest ≡ left
  pub more : List Word
  pub derived : D
  pub good : ok derived
  pub words : ws front ++ more ≡ w derived

pub record Made {A D : Type 0} (w : D → List Word) (ok : D → Type 0) (t : Places → D → A) (v u : Words) (x : A) : Type 0 where
  pub front : Words
  pub split : v ≡ front ++ u
  pub derived : D
  pub good : ok derived
  pub words : ws front ≡ w derived
  pub value : x ≡ t (ps v) derived

-- the reader r, in an environment of values read before, reads the words w of the derivations D that are ok, gives their trees
-- t, and looks no further than at one word behind them, which is not to go on as ext says
pub record Exact {X A D : Type 0} (r : X → Words → Reading A) (w : D → List Word) (ok : D → Type 0) (t : X → Places → D → A) (ext : Word → Bool) : Type 1 where
  pub any : D
  pub any_ok : ok any
  pub some : (e : X) (v u : Words) (x : A) → r e v ≡ Ok (x, u) → Made w ok (t e) v u x
  pub stop : (e : X) (v : Words) (left : ℕ) → r e v ≡ Err left → Stopped w ok v left
  pub whole : (e : X) (d : D) (c u : Words) → ok d → ws c ≡ w d → Fine c → starts ext (ws u) ≡ false → r e (c ++ u) ≡ Ok (t e (ps (c ++ u)) d, u)
  pub repaired : (d : D) → ok d → Repaired w ok d
  pub same : (e : X) (front : Words) (s : Seen) (more others : Words) → r e (front ++ s ∷ more) ≡ Err (suc (length more)) → r e (front ++ s ∷ others) ≡ Err (suc (length others))
  pub steady : (e : X) (front : Words) (s : Seen) (more others : Words) (x : A) → r e (front ++ s ∷ more) ≡ Ok (x, s ∷ more) → r e (front ++ s ∷ others) ≡ Ok (x, s ∷ others)

pub ws-append : (a b : Words) → ws (a ++ b) ≡ ws a ++ ws b
ws-append [] b = refl
ws-append (s ∷ a) b = ap (λ (l : List Word). word_of s ∷ l) (ws-append a b)

pub length-ws : (a : Words) → length (ws a) ≡ length a
length-ws [] = refl
length-ws (s ∷ a) = ap suc (length-ws a)

pub drop_ps : (a b : Words) → drop (length (ws a)) (ps (a ++ b)) ≡ ps b
drop_ps [] b = refl
drop_ps (s ∷ a) b = drop_ps a b

-- the places behind words that are read
pub behind_ps : (v front u : Words) (w : List Word) → v ≡ front ++ u → ws front ≡ w → drop (length w) (ps v) ≡ ps u
behind_ps v front u w split words = ap (λ (l : List Word). drop (length l) (ps v)) (sym words) ∙ ap (λ (l : Words). drop (length (ws front)) (ps l)) split ∙ drop_ps front u

pub fixed-append : (a b : List Word) → map fixed (a ++ b) ≡ map fixed a ++ map fixed b
fixed-append [] b = refl
fixed-append (s ∷ a) b = ap (λ (l : List Word). fixed s ∷ l) (fixed-append a b)

pub fine_front : (a b : Words) → Fine (a ++ b) → Fine a
fine_front [] b fine = tt
fine_front (s ∷ a) b fine = (fine.0, fine_front a b fine.1)

pub fine_back : (a b : Words) → Fine (a ++ b) → Fine b
fine_back [] b fine = fine
fine_back (s ∷ a) b fine = fine_back a b fine.1

-- words that are two lists of words, one behind the other
pub record Halves (c : Words) (a b : List Word) : Type 0 where
  pub front : Words
  pub back : Words
  pub split : c ≡ front ++ back
  pub first : ws front ≡ a
  pub second : ws back ≡ b

pub halves : (c : Words) (a b : List Word) → ws c ≡ a ++ b → Halves c a b
halves c [] b same = record { front = []; back = c; split = refl; first = refl; second = same }
halves [] (x ∷ a) b same = absurd cc
halves (s ∷ c) (x ∷ a) b same =
    let rest = halves c a b (cc) in
    record { front = s ∷ rest.front; back = rest.back; split = ap (λ (l : Words). s ∷ l) rest.split; first = let f = rest.first in cc; second = rest.second }

-- two lists that end in as many words are parted at one place
pub record Seam (a c : Words) (b d : Words) : Type 0 where
  pub fronts : a ≡ c
  pub backs : b ≡ d

pub seam : (a b c d : Words) → a ++ b ≡ c ++ d → length b ≡ length d → Seam a c b d
seam [] b [] d same size = record { fronts = refl; backs = same }
seam [] b (y ∷ c) d same size = absurd (omega (arith, ap length same, length-append c d))
seam (x ∷ a) b [] d same size = absurd (omega (arith, ap length same, length-append a b))
seam (x ∷ a) b (y ∷ c) d same size =
    let rest = seam a b c d (cc) size in let f = rest.fronts in
    record { fronts = let h : x ≡ y = cc in cc; backs = rest.backs }

abbrev value_in : {A : Type 0} → A → Reading A → A
value_in a (Ok x) = x.0
value_in a (Err left) = a

abbrev rest_in : {A : Type 0} → Words → Reading A → Words
rest_in v (Ok x) = x.1
rest_in v (Err left) = v

abbrev left_in : {B : Type 0} → ℕ → Result B ℕ → ℕ
left_in left (Ok x) = left
left_in left (Err other) = other

pub ok_value : {A : Type 0} (a b : A) (v u : Words) → ◌≡◌ {A = Reading A} (Ok (a, v)) (Ok (b, u)) → a ≡ b
ok_value a b v u eq = ap (value_in a) eq

pub ok_rest : {A : Type 0} (a b : A) (v u : Words) → ◌≡◌ {A = Reading A} (Ok (a, v)) (Ok (b, u)) → v ≡ u
ok_rest a b v u eq = ap (rest_in v) eq

pub err_left : {B : Type 0} (m n : ℕ) → ◌≡◌ {A = Result B ℕ} (Err m) (Err n) → m ≡ n
err_left m n eq = ap (left_in m) eq

pub err_ok : {B : Type 0} (n : ℕ) (b : B) → ◌≡◌ {A = Result B ℕ} (Err n) (Ok b) → ⊥
err_ok n b eq = cc
