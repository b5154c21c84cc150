-- Lists that are joined in order: one of them, and an edit in it.
use Rattle.std.proofs.Common.{◌≡◌, ℕ, suc, ◌+◌, ◌-◌, ◌<◌, ◌≤◌, List, [], ◌∷◌, ◌++◌, length, get_or, set, take, drop}
use Rattle.std.proofs.Common.{refl, sym, ap, ◌∙◌, arith, length-append, append_assoc}
use Rattle.std.specs.List.{insert, remove, flat_map}
use Rattle.std.proofs.lemmas.List.{take-append-drop, drop_more, take_more, set_split}
use Rattle.std.proofs.lemmas.List.{set-append_left, set-append_right, append-nil}
use Rattle.std.proofs.lemmas.List.{take_more_set, take-set, drop-set-lt}
use Rattle.std.proofs.lemmas.List.Edits.{insert-append_left, insert-append_right, remove-append_left}
use Rattle.std.proofs.lemmas.List.Edits.{remove-append_right}
use Rattle.std.proofs.lemmas.List.Concat.{flat_map-append}

-- ---- an edit in the middle of three lists

module _ {Y : Type 0} (xs ys zs : List Y) (i : ℕ) where
  past : length xs + i - length xs ≡ i
  past = omega arith

  pub insert_mid : (y : Y) → i ≤ length ys
      → insert (xs ++ (ys ++ zs)) (length xs + i) y ≡ xs ++ (insert ys i y ++ zs)
  insert_mid y le =
      insert-append_right xs (ys ++ zs) (length xs) (length xs + i) y refl (omega arith)
      ∙ ap (λ k. xs ++ insert (ys ++ zs) k y) past
      ∙ ap (λ l. xs ++ l) (insert-append_left ys zs i y le)

  pub remove_mid : i < length ys → remove (xs ++ (ys ++ zs)) (length xs + i) ≡ xs ++ (remove ys i ++ zs)
  remove_mid lt =
      remove-append_right xs (ys ++ zs) (length xs) (length xs + i) refl (omega arith)
      ∙ ap (λ k. xs ++ remove (ys ++ zs) k) past
      ∙ ap (λ l. xs ++ l) (remove-append_left ys zs i lt)

  pub set_mid : (y : Y) → i < length ys
      → set (xs ++ (ys ++ zs)) (length xs + i) y ≡ xs ++ (set ys i y ++ zs)
  set_mid y lt =
      set-append_right xs (ys ++ zs) (length xs) (length xs + i) y refl (omega arith)
      ∙ ap (λ k. xs ++ set (ys ++ zs) k y) past
      ∙ ap (λ l. xs ++ l) (set-append_left ys zs i y lt)

-- ---- one of the lists that are joined

module _ {B Y : Type 0} (f : B → List Y) where
  abbrev start : List B → ℕ → ℕ
  start bs b = length (flat_map f (take b bs))

  module _ (bs : List B) (b : ℕ) (d : B) (within : b < length bs) where
    pub parted : flat_map f bs ≡ flat_map f (take b bs) ++ (f (get_or bs b d) ++ flat_map f (drop (b + 1) bs))
    parted =
        ap (flat_map f) (sym (take-append-drop b bs) ∙ ap (λ l. take b bs ++ l) (drop_more bs b d within))
        ∙ flat_map-append f (take b bs) (get_or bs b d ∷ drop (b + 1) bs)

    pub next_start : start bs (b + 1) ≡ start bs b + length (f (get_or bs b d))
    next_start =
        ap (λ l. length (flat_map f l)) (take_more bs b d within)
        ∙ ap length (flat_map-append f (take b bs) (get_or bs b d ∷ []))
        ∙ length-append (flat_map f (take b bs)) (f (get_or bs b d) ++ [])
        ∙ ap (λ l. start bs b + length l) (append-nil (f (get_or bs b d)))

    pub with_one : (new : B)
        → flat_map f (set bs b new) ≡ flat_map f (take b bs) ++ (f new ++ flat_map f (drop (b + 1) bs))
    with_one new =
        let next : suc b ≡ b + 1 = omega arith in
        ap (flat_map f) (set_split bs b new within)
        ∙ flat_map-append f (take b bs) (new ∷ drop (suc b) bs)
        ∙ ap (λ n. flat_map f (take b bs) ++ (f new ++ flat_map f (drop n bs))) next

    -- one of them that stays as it is
    pub kept : (new : B) → f new ≡ f (get_or bs b d) → flat_map f (set bs b new) ≡ flat_map f bs
    kept new is =
        with_one new ∙ ap (λ l. flat_map f (take b bs) ++ (l ++ flat_map f (drop (b + 1) bs))) is ∙ sym parted

    -- one of them in two
    two_parts : (lower upper : B) → flat_map f (insert (set bs b lower) (b + 1) upper)
        ≡ flat_map f (take b bs) ++ ((f lower ++ f upper) ++ flat_map f (drop (b + 1) bs))
    two_parts lower upper =
        let front = flat_map f (take b bs) in
        let rest = flat_map f (drop (b + 1) bs) in
        flat_map-append f (take (b + 1) (set bs b lower)) (upper ∷ drop (b + 1) (set bs b lower))
        ∙ ap (λ l. flat_map f l ++ (f upper ++ flat_map f (drop (b + 1) (set bs b lower))))
        (take_more_set bs b lower within)
        ∙ ap (λ l. flat_map f (take b bs ++ lower ∷ []) ++ (f upper ++ flat_map f l))
        (drop-set-lt (b + 1) bs b lower (omega arith))
        ∙ ap (λ l. l ++ (f upper ++ rest)) (flat_map-append f (take b bs) (lower ∷ []))
        ∙ ap (λ l. (front ++ l) ++ (f upper ++ rest)) (append-nil (f lower))
        ∙ append_assoc front (f lower) (f upper ++ rest)
        ∙ ap (λ l. front ++ l) (sym (append_assoc (f lower) (f upper) rest))

    pub in_two : (lower upper : B) → f (get_or bs b d) ≡ f lower ++ f upper
        → flat_map f (insert (set bs b lower) (b + 1) upper) ≡ flat_map f bs
    in_two lower upper is =
        two_parts lower upper
        ∙ ap (λ l. flat_map f (take b bs) ++ (l ++ flat_map f (drop (b + 1) bs))) (sym is) ∙ sym parted

    pub inserted_in_two : (lower upper : B) (i : ℕ) (y : Y) → i ≤ length (f (get_or bs b d))
        → f lower ++ f upper ≡ insert (f (get_or bs b d)) i y
        → flat_map f (insert (set bs b lower) (b + 1) upper) ≡ insert (flat_map f bs) (start bs b + i) y
    inserted_in_two lower upper i y le is =
        two_parts lower upper
        ∙ ap (λ l. flat_map f (take b bs) ++ (l ++ flat_map f (drop (b + 1) bs))) is
        ∙ sym (insert_mid (flat_map f (take b bs)) (f (get_or bs b d)) (flat_map f (drop (b + 1) bs)) i y le)
        ∙ ap (λ l. insert l (start bs b + i) y) (sym parted)

    -- an edit in one of them
    pub inserted : (new : B) (i : ℕ) (y : Y) → i ≤ length (f (get_or bs b d)) → f new ≡ insert (f (get_or bs b d)) i y
        → flat_map f (set bs b new) ≡ insert (flat_map f bs) (start bs b + i) y
    inserted new i y le is =
        with_one new ∙ ap (λ l. flat_map f (take b bs) ++ (l ++ flat_map f (drop (b + 1) bs))) is
        ∙ sym (insert_mid (flat_map f (take b bs)) (f (get_or bs b d)) (flat_map f (drop (b + 1) bs)) i y le)
        ∙ ap (λ l. insert l (start bs b + i) y) (sym parted)

    pub changed : (new : B) (i : ℕ) (y : Y) → i < length (f (get_or bs b d)) → f new ≡ set (f (get_or bs b d)) i y
        → flat_map f (set bs b new) ≡ set (flat_map f bs) (start bs b + i) y
    changed new i y lt is =
        with_one new ∙ ap (λ l. flat_map f (take b bs) ++ (l ++ flat_map f (drop (b + 1) bs))) is
        ∙ sym (set_mid (flat_map f (take b bs)) (f (get_or bs b d)) (flat_map f (drop (b + 1) bs)) i y lt)
        ∙ ap (λ l. set l (start bs b + i) y) (sym parted)

    removed_mid : (i : ℕ) → i < length (f (get_or bs b d)) → remove (flat_map f bs) (start bs b + i)
        ≡ flat_map f (take b bs) ++ (remove (f (get_or bs b d)) i ++ flat_map f (drop (b + 1) bs))
    removed_mid i lt =
        ap (λ l. remove l (start bs b + i)) parted
        ∙ remove_mid (flat_map f (take b bs)) (f (get_or bs b d)) (flat_map f (drop (b + 1) bs)) i lt

    pub removed : (new : B) (i : ℕ) → i < length (f (get_or bs b d)) → f new ≡ remove (f (get_or bs b d)) i
        → flat_map f (set bs b new) ≡ remove (flat_map f bs) (start bs b + i)
    removed new i lt is =
        with_one new ∙ ap (λ l. flat_map f (take b bs) ++ (l ++ flat_map f (drop (b + 1) bs))) is
        ∙ sym (removed_mid i lt)

    -- the last one of a list goes with the list
    pub removed_whole : (i : ℕ) → i < length (f (get_or bs b d)) → remove (f (get_or bs b d)) i ≡ []
        → flat_map f (remove bs b) ≡ remove (flat_map f bs) (start bs b + i)
    removed_whole i lt is =
        let next : suc b ≡ b + 1 = omega arith in
        flat_map-append f (take b bs) (drop (suc b) bs)
        ∙ ap (λ n. flat_map f (take b bs) ++ flat_map f (drop n bs)) next
        ∙ ap (λ l. flat_map f (take b bs) ++ (l ++ flat_map f (drop (b + 1) bs))) (sym is)
        ∙ sym (removed_mid i lt)

-- what was set is gone when it is removed
pub remove_set : {B : Type 0} (bs : List B) (b : ℕ) (new : B) → remove (set bs b new) b ≡ remove bs b
remove_set bs b new =
    ap (λ l. l ++ drop (suc b) (set bs b new)) (take-set bs b new)
    ∙ ap (λ l. take b bs ++ l) (drop-set-lt (suc b) bs b new (omega arith))
