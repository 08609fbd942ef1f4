-- A text that goes out in pieces.
use Rattle.std.proofs.Common.{◌≡◌, ℕ, ◌+◌, ◌-◌, ◌*◌, ◌<◌, ◌≤◌, min, List, length, take, drop, sym, ◌∙◌, ap, subst, arith, ◌⊎◌, inl, inr}
use Rattle.std.specs.Prelude.{Option, Err}
use Rattle.std.specs.Io.KnownBytes.{Appends}
use Rattle.std.proofs.KnownBytes.{Appends-trans, Appends-kept}
use Rattle.std.proofs.lemmas.Bool.{cases_lt}
use Rattle.std.proofs.lemmas.List.{take-take, length-take, take_all}
use lib.Seq.{take-add}
use Rattle.outside_io.specs.Sinks.{Puts}
use Rattle.outside_io.specs.declared.sink.SinkFault.{SinkFault}
use Rattle.outside_io.specs.declared.sink.SinkFault.TheVariants as fault
use Rattle.tiresias_core.specs.Pieces.{WritesText}

-- the text as far as one more piece
pub more_pieces : (text : List ℕ) (done size pieces : ℕ) → done < length text → size ≡ min 65536 (length text - done) → take done text ≡ take (65536 * pieces) text → take (done + size) text ≡ take (65536 * (pieces + 1)) text
more_pieces text done size pieces less is so_far = by_size (cases_lt (length text - done) 65536)
  where
    by_size : (length text - done < 65536) ⊎ (65536 ≤ length text - done) → take (done + size) text ≡ take (65536 * (pieces + 1)) text
    by_size (inl last) =
        let whole : length text ≤ done + size = omega arith in
        let past : length text ≤ 65536 * (pieces + 1) = omega (arith, ap length so_far, length-take done text, length-take (65536 * pieces) text) in
        take_all (done + size) text whole ∙ sym (take_all (65536 * (pieces + 1)) text past)
    by_size (inr full) =
        let at : done + size ≡ 65536 * (pieces + 1) = omega (arith, ap length so_far, length-take done text, length-take (65536 * pieces) text) in
        ap (λ (n : ℕ). take n text) at

pub more_written : (a b c : Option (List ℕ)) (text : List ℕ) (done size : ℕ) → Appends a b (take done text) → Appends b c (take size (drop done text)) → Appends a c (take (done + size) text)
more_written a b c text done size so_far more = subst (Appends a c) (sym (take-add done size text)) (Appends-trans a b c _ _ so_far more)

part_taken : (n size : ℕ) (l : List ℕ) → take n (take size l) ≡ take (min n size) l
part_taken n size l = by_size (cases_lt size n)
  where
    by_size : (size < n) ⊎ (n ≤ size) → take n (take size l) ≡ take (min n size) l
    by_size (inl short) =
        let all : length (take size l) ≤ n = omega (arith, length-take size l) in
        let least : size ≡ min n size = omega arith in
        take_all n (take size l) all ∙ ap (λ (k : ℕ). take k l) least
    by_size (inr within) = let least : n ≡ min n size = omega arith in take-take n size l within ∙ ap (λ (k : ℕ). take k l) least

-- a piece that was not written whole
pub cut_short : (T : Type 0) (a b c : Option (List ℕ)) (text : List ℕ) (done size pieces : ℕ) (why : SinkFault) → Appends a b (take done text) → Puts {T = T} b c (take size (drop done text)) (Err why) → take done text ≡ take (65536 * pieces) text → WritesText {T = T} a c text (Err why)
cut_short T a b c text done size pieces fault.Failed so_far put whole =
    (done + min put.0 size, more_written a b c text done (min put.0 size) so_far (subst (λ (l : List ℕ). Appends b c l) (part_taken put.0 size (drop done text)) put.1))
cut_short T a b c text done size pieces fault.Memory so_far put whole = (pieces, subst (λ (l : List ℕ). Appends a c l) whole (Appends-kept a b c (take done text) so_far put))
