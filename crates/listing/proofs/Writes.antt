-- Texts written one behind the other: each at the front of the rest of the memory.
use Rattle.std.proofs.Common.{◌≡◌, ℕ, ◌+◌, ◌-◌, ◌≤◌, List, [], ◌++◌, length, take, drop, sym, ap, ◌∙◌, arith, length-append, length-drop, append_assoc, append-nil, drop-drop}
use borrow.Rule.Slice.PartMut.{put_mid}
use Rattle.std.proofs.lemmas.List.{drop_all, drop_at, take_all, take_at}
use Rattle.listing.specs.Memory.{AtFront}

module _ {s m m' : List ℕ} {n : ℕ} (fits : n ≤ length m) (v : AtFront s m n m') where
  rest : drop n m' ≡ drop n m
  rest = ap (drop n) v.memory ∙ drop_at s (drop n m) n (sym v.size)

  whole : take (length m' - n) (drop n m') ≡ drop n m
  whole = take_all (length m' - n) (drop n m') (omega (arith, length-drop n m')) ∙ rest

  -- what is left of the memory
  pub room : length (take (length m' - n) (drop n m')) ≡ length m - n
  room = ap length whole ∙ length-drop n m

  -- A text behind a text is the two at once.
  pub behind : {t r : List ℕ} {k : ℕ} → AtFront t (take (length m' - n) (drop n m')) k r → AtFront (s ++ t) m (n + k) (put_mid n (length m' - n) m' r)
  behind {t} {r} {k} w =
      let front : take n m' ≡ s = ap (take n) v.memory ∙ take_at s (drop n m) n (sym v.size) in
      let end : drop (length m' - n) (drop n m') ≡ [] = drop_all (length m' - n) (drop n m') (omega (arith, length-drop n m')) in
      let back : r ≡ t ++ drop (n + k) m = w.memory ∙ ap (λ x. t ++ drop k x) whole ∙ ap (λ x. t ++ x) (drop-drop k n m) in
      record {
        size = omega (arith, length-append s t, v.size, w.size);
        memory = rw (front, end, back) (simp (append-nil, append_assoc));
      }
