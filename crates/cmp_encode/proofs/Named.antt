-- What the forms of Pos, Guard, Abs and Tot name.
use Rattle.std.proofs.Common.{ℕ, pos, negsuc, ◌+ℤ◌, ◌*ℤ◌, neg_ℤ}
use Rattle.prov_fold.specs.declared.span.Span.{Span}
use Rattle.bool_encode.specs.declared.form.Key.{Key}
use Rattle.bool_encode.specs.declared.form.Key.TheVariants as key
use Rattle.bool_encode.proofs.FormLemmas.{NamesOnly, two_pieces, three_pieces}
use Rattle.cmp_encode.specs.Tables.{pos_forms, guard_forms, abs_forms, tot_forms}

module _ (P : Key → Type 0) where
  abbrev At : ℕ → Type 0
  At z = P (key.Node z)

  pub names_pos : (s : Span) (n z : ℕ) → At n → At z → NamesOnly P (pos_forms s n z)
  names_pos s n z p q = (two_pieces P (pos 1) s.lo n z p q, (two_pieces P (s.hi +ℤ pos 1) (negsuc 0) z n q p, tt))

  pub names_guard : (s : Span) (t n z : ℕ) → At t → At n → At z → NamesOnly P (guard_forms s t n z)
  names_guard s t n z p q r = (two_pieces P (pos 1) (neg_ℤ s.lo) z t r p, (two_pieces P s.hi (negsuc 0) t z p r, (three_pieces P (pos 1) (negsuc 0) (neg_ℤ s.hi) z n t r q p, (three_pieces P (pos 1) s.lo (negsuc 0) n t z q p r, tt))))

  pub names_tot : (n z : ℕ) → At n → At z → NamesOnly P (tot_forms n z)
  names_tot n z p q = (two_pieces P (pos 1) (negsuc 0) z n q p, (two_pieces P (pos 1) (negsuc 0) n z p q, tt))

  pub names_abs : (s : Span) (n b z : ℕ) → At n → At b → At z → NamesOnly P (abs_forms s n b z)
  names_abs s n b z p q r = (two_pieces P (pos 1) (negsuc 0) z n r p, (two_pieces P (pos 1) (pos 1) z n r p, (three_pieces P (pos 1) (pos 2 *ℤ s.lo) (negsuc 0) n b z p q r, (three_pieces P (negsuc 0) (pos 2 *ℤ s.hi) (negsuc 0) n b z p q r, tt))))
