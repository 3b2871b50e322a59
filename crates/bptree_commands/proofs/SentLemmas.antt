-- Lemmas about bytes that are sent to a writer in parts.
use Rattle.std.proofs.Common.{◌≡◌, ℕ, ◌-◌, ◌≤◌, List, [], ◌++◌, length, refl, take, drop, Option, sym, ap, ◌∙◌, append_assoc, append-nil, arith, length-drop, take-append-drop}
use Rattle.std.proofs.lemmas.List.{take_all}
use Rattle.std.proofs.KnownBytes.{Appends-nil, Appends-trans}
use Rattle.std.specs.Io.KnownBytes.{Appends}
use Rattle.std.specs.Prelude.{Result, Ok, Err}
use Rattle.bptree_commands.specs.Sent.{AppendsBeginning, Sent, Sends, CutsOff, SendsOrFails, Breaks, Replies}
use Rattle.bptree_commands.specs.declared.error.ServeError.{ServeError}
use Rattle.bptree_commands.specs.declared.error.ServeError.TheVariants.{Io, OutOfMemory}

-- One more write extends what was written.
pub wrote_more : (a b c : Option (List ℕ)) (bytes rest : List ℕ) (n : ℕ) → n ≤ length rest
    → (front : List ℕ) × (bytes ≡ front ++ rest) × Appends a b front → Appends b c (take n rest)
    → (front : List ℕ) × (bytes ≡ front ++ take (length rest - n) (drop n rest)) × Appends a c front
wrote_more a b c bytes rest n fits so_far h =
    let whole : take (length rest - n) (drop n rest) ≡ drop n rest = take_all _ _ (omega (arith, length-drop n rest)) in (
      so_far.0 ++ take n rest,
      so_far.1 ∙ ap (λ t. so_far.0 ++ t) (sym (take-append-drop n rest) ∙ ap (λ t. take n rest ++ t) (sym whole)) ∙ sym (append_assoc so_far.0 (take n rest) _),
      Appends-trans a b c so_far.0 (take n rest) so_far.2 h,
    )

-- A beginning of a text is a beginning of a longer text.
pub AppendsBeginning-longer : (a b : Option (List ℕ)) (text more : List ℕ) → AppendsBeginning a b text → AppendsBeginning a b (text ++ more)
AppendsBeginning-longer a b text more h = (h.0, h.1 ++ more, ap (λ t. t ++ more) h.2 ∙ append_assoc h.0 h.1 more, h.3)

-- Sending one text after another sends both.
pub Sends-then : (a b c : Sent) (t u : List ℕ) → Sends a b t → Sends b c u → Sends a c (t ++ u)
Sends-then a b c t u x y = (
  y.0 ∙ x.0,
  x.1 ++ y.1,
  sym (append_assoc a.held t u) ∙ ap (λ s. s ++ u) x.2 ∙ append_assoc x.1 b.held u ∙ ap (λ s. x.1 ++ s) y.2 ∙ sym (append_assoc x.1 y.1 c.held),
  Appends-trans a.written b.written c.written x.1 y.1 x.3 y.3,
)

-- If the second text is cut off, both texts are.
pub Sends-cut : (a b c : Sent) (t u : List ℕ) → Sends a b t → CutsOff b c u → CutsOff a c (t ++ u)
Sends-cut a b c t u x y = (
  y.0 ∙ x.0,
  (
    x.1 ++ y.1.0,
    y.1.1,
    sym (append_assoc a.held t u) ∙ ap (λ s. s ++ u) x.2 ∙ append_assoc x.1 b.held u ∙ ap (λ s. x.1 ++ s) y.1.2 ∙ sym (append_assoc x.1 y.1.0 y.1.1),
    Appends-trans a.written b.written c.written x.1 y.1.0 x.3 y.1.3,
  ),
)

-- If the first of two texts is cut off, both texts are.
pub CutsOff-longer : (a b : Sent) (t u : List ℕ) → CutsOff a b t → CutsOff a b (t ++ u)
CutsOff-longer a b t u x = (x.0, (x.1.0, x.1.1 ++ u, sym (append_assoc a.held t u) ∙ ap (λ s. s ++ u) x.1.2 ∙ append_assoc x.1.0 x.1.1 u, x.1.3))

-- Sending nothing changes nothing.
pub Sends-nothing : (a : Sent) → Sends a a []
Sends-nothing a = (refl, [], append-nil a.held, Appends-nil a.written)

-- If a text was sent, sending another one after it sends both or fails.
pub SendsOrFails-then : {T : Type 0} → (a b c : Sent) (t u : List ℕ) (r : Result T ServeError) → Sends a b t → SendsOrFails b c u r → SendsOrFails a c (t ++ u) r
SendsOrFails-then a b c t u (Ok x) p q = Sends-then a b c t u p q
SendsOrFails-then a b c t u (Err e) p q = (q.0, Sends-cut a b c t u p q.1)

-- If sending the first of two texts fails, sending both fails.
pub SendsOrFails-cut : {T : Type 0} → (a b : Sent) (t u : List ℕ) (e f : ServeError) (r : Result T ServeError) → r ≡ Err f → f ≡ e → (e ≡ Io) × CutsOff a b t → SendsOrFails a b (t ++ u) r
SendsOrFails-cut a b t u e f r is same q = rw (is, same) (q.0, CutsOff-longer a b t u q.1)

-- Sending a text is a reply.
pub Replies-from_sends : {T : Type 0} → (a b : Sent) (t : List ℕ) (r : Result T ServeError) → SendsOrFails a b t r → Replies a b t r
Replies-from_sends a b t (Ok x) q = q
Replies-from_sends a b t (Err e) q = rw q.0 q.1

-- A sent text that is followed by another one is a reply of both.
pub Replies-then : {T : Type 0} → (a b c : Sent) (t u : List ℕ) (r : Result T ServeError) → Sends a b t → SendsOrFails b c u r → Replies a c (t ++ u) r
Replies-then a b c t u r p q = Replies-from_sends a c (t ++ u) r (SendsOrFails-then a b c t u r p q)

Breaks-longer : (e : ServeError) (a b : Sent) (t u : List ℕ) → Breaks e a b t → Breaks e a b (t ++ u)
Breaks-longer Io a b t u q = CutsOff-longer a b t u q
Breaks-longer OutOfMemory a b t u q = q

-- If the first of two texts breaks off, the reply of both does.
pub Replies-cut : {T : Type 0} → (a b : Sent) (t u : List ℕ) (e f : ServeError) (r : Result T ServeError) → r ≡ Err f → f ≡ e → Breaks e a b t → Replies a b (t ++ u) r
Replies-cut a b t u e f r is same q = rw (is, same) (Breaks-longer e a b t u q)
