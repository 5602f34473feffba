-- Bytes laid over a buffer, one after another.
use Rattle.std.proofs.Common.{◌≡◌, ℕ, ◌+◌, ◌-◌, ◌<◌, ◌≤◌, List, [], ◌∷◌, ◌++◌, length, take, drop, set, sym, ap, ◌∙◌, append_assoc, length-drop, add-one, arith, length-append}
use borrow.Rule.Slice.PartMut.{put_mid, mid_of}
use Rattle.std.proofs.lemmas.List.{take_all, drop_all, append-nil, drop-drop, take-set-le, take_at, drop_at, drop-set, length-take-le, set_split}
use Rattle.basis.specs.Lines.{laid}

pub put_mid-laid : (a k : ℕ) (xs ys : List ℕ) → k ≡ length ys → put_mid a k xs ys ≡ laid a ys xs
put_mid-laid a k xs ys e = ap (λ t. take a xs ++ (ys ++ t)) (drop-drop k a xs ∙ ap (λ m. drop (a + m) xs) e)

-- the last byte may be written first
pub laid-last : (a : ℕ) (xs : List ℕ) (y : ℕ) (buf : List ℕ) (i : ℕ) → i ≡ a + length xs → i < length buf → laid a xs (set buf i y) ≡ laid a (xs ++ (y ∷ [])) buf
laid-last a xs y buf i e h =
    let front : take a (set buf i y) ≡ take a buf = take-set-le a buf i y (omega arith) in
    let back : drop i (set buf i y) ≡ y ∷ drop (i + 1) buf = drop-set buf i y h in
    let end : a + length (xs ++ (y ∷ [])) ≡ i + 1 = omega (arith, length-append xs (y ∷ [])) in
    let step : drop (a + length xs) (set buf i y) ≡ y ∷ drop (a + length (xs ++ (y ∷ []))) buf =
    ap (λ m. drop m (set buf i y)) (sym e) ∙ (back ∙ ap (λ m. y ∷ drop m buf) (sym end))
    in
    ap (λ t. t ++ (xs ++ drop (a + length xs) (set buf i y))) front
    ∙ (ap (λ t. take a buf ++ (xs ++ t)) step ∙ ap (λ t. take a buf ++ t) (sym (append_assoc xs (y ∷ []) (drop (a + length (xs ++ (y ∷ []))) buf))))

-- laid from the beginning on
pub laid-front : (xs buf : List ℕ) → laid 0 xs buf ≡ xs ++ drop (length xs) buf
laid-front xs buf = let e : 0 + length xs ≡ length xs = omega arith in ap (λ m. xs ++ drop m buf) e

-- laid over the part from a place on
pub laid-part :
    (a k : ℕ) (bytes buf part : List ℕ) → k ≡ length buf - a → a + length bytes ≤ length buf → part ≡ bytes ++ drop (length bytes) (mid_of a k buf)
    → put_mid a k buf part ≡ laid a bytes buf
laid-part a k bytes buf part e h p =
    let rest : List ℕ = drop a buf in
    let long : length rest ≡ k = length-drop a buf ∙ sym e in
    let whole : mid_of a k buf ≡ rest = take_all k rest (omega arith) in
    let back : drop (length bytes) (mid_of a k buf) ≡ drop (a + length bytes) buf =
    ap (drop (length bytes)) whole ∙ drop-drop (length bytes) a buf
    in
    let none : drop k rest ≡ [] = drop_all k rest (omega arith) in
    ap (λ t. take a buf ++ (t ++ drop k rest)) p
    ∙ (ap (λ t. take a buf ++ ((bytes ++ drop (length bytes) (mid_of a k buf)) ++ t)) none
    ∙ (ap (λ t. take a buf ++ t) (append-nil (bytes ++ drop (length bytes) (mid_of a k buf)))
    ∙ ap (λ t. take a buf ++ (bytes ++ t)) back))

pub laid_one : (buf : List ℕ) (i y : ℕ) → i < length buf → set buf i y ≡ laid i (y ∷ []) buf
laid_one buf i y h = set_split buf i y h ∙ ap (λ m. take i buf ++ (y ∷ drop m buf)) (sym (add-one i))

-- some bytes, and others after them
pub laid_then : (a b : ℕ) (xs ys : List ℕ) (buf : List ℕ) → b ≡ a + length xs → b ≤ length buf → laid b ys (laid a xs buf) ≡ laid a (xs ++ ys) buf
laid_then a b xs ys buf e h =
    let all = take a buf ++ (xs ++ drop (a + length xs) buf) in
    let long : length (take a buf ++ xs) ≡ b = length-append (take a buf) xs ∙ (ap (λ m. m + length xs) (length-take-le a buf (omega arith)) ∙ sym e) in
    let split : all ≡ (take a buf ++ xs) ++ drop (a + length xs) buf = sym (append_assoc (take a buf) xs (drop (a + length xs) buf)) in
    let front : take b all ≡ take a buf ++ xs = ap (take b) split ∙ take_at (take a buf ++ xs) (drop (a + length xs) buf) b long in
    let rest : drop b all ≡ drop b buf =
    ap (drop b) split ∙ (drop_at (take a buf ++ xs) (drop (a + length xs) buf) b long ∙ ap (λ m. drop m buf) (sym e))
    in
    let back : drop (b + length ys) all ≡ drop (a + length (xs ++ ys)) buf =
    sym (drop-drop (length ys) b all)
    ∙ (ap (drop (length ys)) rest ∙ (drop-drop (length ys) b buf ∙ ap (λ m. drop m buf) (omega (arith, length-append xs ys))))
    in
    ap (λ t. t ++ (ys ++ drop (b + length ys) all)) front
    ∙ (ap (λ t. (take a buf ++ xs) ++ (ys ++ t)) back
    ∙ (append_assoc (take a buf) xs (ys ++ drop (a + length (xs ++ ys)) buf)
    ∙ ap (λ t. take a buf ++ t) (sym (append_assoc xs ys (drop (a + length (xs ++ ys)) buf)))))
