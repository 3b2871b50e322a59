-- Proofs of the laws of which lines are read as requests.
use Rattle.std.proofs.Common.{◌≡◌, ℕ, ◌^◌, ◌<◌, ◌≤◌, List, [], ◌∷◌, ◌++◌, length, get_or, ◌==◌, true, refl, ◌∙◌, sym, ap, arith, Some, None, codes, decimal, lit<, inl, inr, subst, append_assoc, length-append}
use Rattle.std.specs.Prelude.{Option, bytes_eq, option_map, option_and_then}
use Rattle.std.proofs.lemmas.Bool.{cases_Bool}
use Rattle.std.proofs.lemmas.Bool.Decides.{nat_tests}
use Rattle.std.proofs.lemmas.Fmt.{decimal-digits_value, digits_decimal, digits_value-decimal, decimal_nonempty, first_decimal, decimal_digit, length-decimal-le}
use Rattle.std.proofs.lemmas.List.Splits.{slice_split-cons_no, join_with_byte-slice_split}
use Rattle.std.proofs.lemmas.Slice.Eq.{bytes_eq-Decides}
use Rattle.std.specs.List.{join_with_byte, onto_first}
use Rattle.std.specs.Str.{all_ascii_digits}
use Rattle.std.specs.Str.Parse.{digits_value}
use Rattle.bptree_protocol.proofs.NumberLemmas.{digits_model}
use Rattle.bptree_protocol.specs.Number.{number_of}
use Rattle.bptree_protocol.specs.Request.{words, bare_request_from, key_request_from, pair_request_from, request_from, request_of, line_of, FitsRequest}
use Rattle.bptree_protocol.specs.declared.Request.{Request}
use Rattle.bptree_protocol.specs.declared.TheConstants.{LONGEST_LINE}
use Rattle.bptree_protocol.specs.declared.Request.TheVariants.{Put, Del, Get, Len, All as AllPairs, First, Last, At, Rank, Next, Prev, Back, Clear, Range, Page}

-- A word that writes a number is the decimal text of that number.
pub number_of-some : (word : List ℕ) (n : ℕ) → number_of word ≡ Some n → (word ≡ decimal n) × (n < 2 ^ 64)
unfolding number_of
number_of-some word n h =
    elim (cases_Bool (all_ascii_digits word)) [
      | inl digits ↦
          let some : 0 < length word = grind (arith, nat_tests) in
          let plain : get_or word 0 0 ≡ 48 → length word ≡ 1 = λ e. grind (arith, nat_tests) in
          let small : digits_value 10 word < 2 ^ 64 = grind (arith, nat_tests) in
          let is : digits_value 10 word ≡ n = grind (arith, nat_tests) in
          (sym (decimal-digits_value digits_model word digits some plain small) ∙ ap decimal is, rw is at small)
      | inr other ↦ absurd (grind (arith, nat_tests))
    ]

-- The decimal text of a number is a word that writes the number.
pub number_of-decimal : (n : ℕ) → n < 2 ^ 64 → number_of (decimal n) ≡ Some n
unfolding number_of
number_of-decimal n small =
    let digits = digits_decimal digits_model n small in
    let value = digits_value-decimal digits_model n small in
    let some = decimal_nonempty n small in
    elim (cases_Bool (n == 0)) [
      | inl zero_case ↦ let e : n ≡ 0 = grind (arith, nat_tests) in rw e (rw (decimal_digit 0 (lit< tt)) refl)
      | inr other ↦
          let first = first_decimal n (grind (arith, nat_tests)) small in
          grind (arith, nat_tests)
    ]

-- A word of digits before a space is the first word of the line.
words_digits : (ds rest : List ℕ) → all_ascii_digits ds ≡ true → words (ds ++ 32 ∷ rest) ≡ ds ∷ words rest
unfolding words
words_digits [] rest h = refl
words_digits (d ∷ ds) rest h =
    let digit : all_ascii_digits ds ≡ true = grind (arith, nat_tests) in
    slice_split-cons_no _ d (ds ++ 32 ∷ rest) (grind (arith, nat_tests)) ∙ ap (onto_first d) (words_digits ds rest digit)

words_digits_end : (ds : List ℕ) → all_ascii_digits ds ≡ true → words ds ≡ ds ∷ []
unfolding words
words_digits_end [] h = refl
words_digits_end (d ∷ ds) h =
    let digit : all_ascii_digits ds ≡ true = grind (arith, nat_tests) in
    slice_split-cons_no _ d ds (grind (arith, nat_tests)) ∙ ap (onto_first d) (words_digits_end ds digit)

-- The words of a line of one number, and of two numbers with a space between them.
number_words : (n : ℕ) → n < 2 ^ 64 → words (decimal n) ≡ decimal n ∷ []
number_words n small = words_digits_end (decimal n) (digits_decimal digits_model n small)

pair_words : (m n : ℕ) → m < 2 ^ 64 → n < 2 ^ 64 → words ((decimal m ++ 32 ∷ []) ++ decimal n) ≡ decimal m ∷ decimal n ∷ []
pair_words m n small small_too =
    ap words (append_assoc (decimal m) (32 ∷ []) (decimal n)) ∙ words_digits (decimal m) (decimal n) (digits_decimal digits_model m small) ∙ ap (λ ws. decimal m ∷ ws) (number_words n small_too)

named : (name : List ℕ) {was is : List (List ℕ)} → was ≡ is → request_from (name ∷ was) ≡ request_from (name ∷ is)
named name = ap (λ ws. request_from (name ∷ ws))

-- The line that writes a request is read as that request.
pub request_of-line : (r : Request) → FitsRequest r → request_of (line_of r) ≡ Some r
unfolding words request_of
request_of-line (Put k v) fits = named (codes "put") (pair_words k v fits.0 fits.1) ∙ rw (number_of-decimal k fits.0, number_of-decimal v fits.1) refl
request_of-line (Del k) fits = named (codes "del") (number_words k fits) ∙ rw (number_of-decimal k fits) refl
request_of-line (Get k) fits = named (codes "get") (number_words k fits) ∙ rw (number_of-decimal k fits) refl
request_of-line Len fits = refl
request_of-line AllPairs fits = refl
request_of-line First fits = refl
request_of-line Last fits = refl
request_of-line (At i) fits = named (codes "at") (number_words i fits) ∙ rw (number_of-decimal i fits) refl
request_of-line (Rank k) fits = named (codes "rank") (number_words k fits) ∙ rw (number_of-decimal k fits) refl
request_of-line (Next k) fits = named (codes "next") (number_words k fits) ∙ rw (number_of-decimal k fits) refl
request_of-line (Prev k) fits = named (codes "prev") (number_words k fits) ∙ rw (number_of-decimal k fits) refl
request_of-line Back fits = refl
request_of-line Clear fits = refl
request_of-line (Range lo hi) fits = named (codes "range") (pair_words lo hi fits.0 fits.1) ∙ rw (number_of-decimal lo fits.0, number_of-decimal hi fits.1) refl
request_of-line (Page p s) fits = named (codes "page") (pair_words p s fits.0 fits.1) ∙ rw (number_of-decimal p fits.0, number_of-decimal s fits.1) refl

pair-some : (make : ℕ → ℕ → Request) (o p : Option ℕ) (r : Request) → option_and_then (λ k. option_map (make k) p) o ≡ Some r
    → (k : ℕ) × (v : ℕ) × (o ≡ Some k) × (p ≡ Some v) × (make k v ≡ r)
pair-some make None p r h = absurd (cc h)
pair-some make (Some k) None r h = absurd (cc h)
pair-some make (Some k) (Some v) r h = (k, v, refl, refl, cc h)

key-some : (make : ℕ → Request) (o : Option ℕ) (r : Request) → option_map make o ≡ Some r → (k : ℕ) × (o ≡ Some k) × (make k ≡ r)
key-some make None r h = absurd (cc h)
key-some make (Some k) r h = (k, refl, cc h)

same_line : (name text k digits : List ℕ) → name ≡ text → k ≡ digits → name ++ 32 ∷ k ≡ text ++ 32 ∷ digits
same_line name text k digits e f = rw (e, f) refl

-- If a name and a word for a number make a request, the line of both is the line that writes it.
key-line : (name text k : List ℕ) (make : ℕ → Request) (r : Request) → bytes_eq name text ≡ true → option_map make (number_of k) ≡ Some r
    → ((n : ℕ) → text ++ 32 ∷ decimal n ≡ line_of (make n)) → ((n : ℕ) → n < 2 ^ 64 → FitsRequest (make n))
    → (name ++ 32 ∷ k ≡ line_of r) × FitsRequest r
key-line name text k make r same h writes fits =
    let g = key-some make (number_of k) r h in
    let number = number_of-some k g.0 g.1 in
    let P : Request → Type 0 = λ r. (name ++ 32 ∷ k ≡ line_of r) × FitsRequest r in
    subst P g.2 (same_line name text k (decimal g.0) ((bytes_eq-Decides name text).0 same) number.0 ∙ writes g.0, fits g.0 number.1)

-- If a name and words for two numbers make a request, the line of the three is the line that writes
-- it.
pair-line : (name text k v : List ℕ) (make : ℕ → ℕ → Request) (r : Request) → bytes_eq name text ≡ true
    → option_and_then (λ k. option_map (make k) (number_of v)) (number_of k) ≡ Some r
    → ((m n : ℕ) → text ++ 32 ∷ (decimal m ++ 32 ∷ decimal n) ≡ line_of (make m n)) → ((m n : ℕ) → m < 2 ^ 64 → n < 2 ^ 64 → FitsRequest (make m n))
    → (name ++ 32 ∷ (k ++ 32 ∷ v) ≡ line_of r) × FitsRequest r
pair-line name text k v make r same h writes fits =
    let g = pair-some make (number_of k) (number_of v) r h in
    let first = number_of-some k g.0 g.2 in
    let second = number_of-some v g.1 g.3 in
    let P : Request → Type 0 = λ r. (name ++ 32 ∷ (k ++ 32 ∷ v) ≡ line_of r) × FitsRequest r in
    subst P g.4 (same_line name text (k ++ 32 ∷ v) (decimal g.0 ++ 32 ∷ decimal g.1) ((bytes_eq-Decides name text).0 same) (same_line k (decimal g.0) v (decimal g.1) first.0 second.0) ∙ writes g.0 g.1, fits g.0 g.1 first.1 second.1)

-- If a name alone makes a request, the name is the line that writes it.
word-line : (name text : List ℕ) (q r : Request) → bytes_eq name text ≡ true → text ≡ line_of q → FitsRequest q → Some q ≡ Some r → (name ≡ line_of r) × FitsRequest r
word-line name text q r same is fits e =
    let P : Request → Type 0 = λ r. (name ≡ line_of r) × FitsRequest r in
    let there : q ≡ r = cc e in
    subst P there ((bytes_eq-Decides name text).0 same ∙ is, fits)

bare_request_from-some : (name : List ℕ) (r : Request) → bare_request_from name ≡ Some r → (name ≡ line_of r) × FitsRequest r
bare_request_from-some name r h = elim (cases_Bool (bytes_eq name (codes "len"))) [
  | inl e ↦ word-line name (codes "len") Len r e refl tt (rw e at h)
  | inr e ↦ elim (cases_Bool (bytes_eq name (codes "all"))) [
    | inl f ↦ word-line name (codes "all") AllPairs r f refl tt (rw (e, f) at h)
    | inr f ↦ elim (cases_Bool (bytes_eq name (codes "first"))) [
      | inl g ↦ word-line name (codes "first") First r g refl tt (rw (e, f, g) at h)
      | inr g ↦ elim (cases_Bool (bytes_eq name (codes "last"))) [
        | inl i ↦ word-line name (codes "last") Last r i refl tt (rw (e, f, g, i) at h)
        | inr i ↦ elim (cases_Bool (bytes_eq name (codes "clear"))) [
          | inl j ↦ word-line name (codes "clear") Clear r j refl tt (rw (e, f, g, i, j) at h)
          | inr j ↦ elim (cases_Bool (bytes_eq name (codes "back"))) [
            | inl k ↦ word-line name (codes "back") Back r k refl tt (rw (e, f, g, i, j, k) at h)
            | inr k ↦ absurd (cc (rw (e, f, g, i, j, k) at h))
          ]
        ]
      ]
    ]
  ]
]

key_request_from-some : (name k : List ℕ) (r : Request) → key_request_from name (number_of k) ≡ Some r → (name ++ 32 ∷ k ≡ line_of r) × FitsRequest r
key_request_from-some name k r h = elim (cases_Bool (bytes_eq name (codes "get"))) [
  | inl e ↦ key-line name (codes "get") k (λ n. Get n) r e (rw e at h) (λ n. refl) (λ n small. small)
  | inr e ↦ elim (cases_Bool (bytes_eq name (codes "at"))) [
    | inl f ↦ key-line name (codes "at") k (λ n. At n) r f (rw (e, f) at h) (λ n. refl) (λ n small. small)
    | inr f ↦ elim (cases_Bool (bytes_eq name (codes "rank"))) [
      | inl g ↦ key-line name (codes "rank") k (λ n. Rank n) r g (rw (e, f, g) at h) (λ n. refl) (λ n small. small)
      | inr g ↦ elim (cases_Bool (bytes_eq name (codes "del"))) [
        | inl i ↦ key-line name (codes "del") k (λ n. Del n) r i (rw (e, f, g, i) at h) (λ n. refl) (λ n small. small)
        | inr i ↦ elim (cases_Bool (bytes_eq name (codes "next"))) [
          | inl j ↦ key-line name (codes "next") k (λ n. Next n) r j (rw (e, f, g, i, j) at h) (λ n. refl) (λ n small. small)
          | inr j ↦ elim (cases_Bool (bytes_eq name (codes "prev"))) [
            | inl l ↦ key-line name (codes "prev") k (λ n. Prev n) r l (rw (e, f, g, i, j, l) at h) (λ n. refl) (λ n small. small)
            | inr l ↦ absurd (cc (rw (e, f, g, i, j, l) at h))
          ]
        ]
      ]
    ]
  ]
]

pair_request_from-some : (name k v : List ℕ) (r : Request) → pair_request_from name (number_of k) (number_of v) ≡ Some r → (name ++ 32 ∷ (k ++ 32 ∷ v) ≡ line_of r) × FitsRequest r
pair_request_from-some name k v r h = elim (cases_Bool (bytes_eq name (codes "put"))) [
  | inl e ↦ pair-line name (codes "put") k v (λ m n. Put m n) r e (rw e at h) (λ m n. ap (λ rest. codes "put " ++ rest) (sym (append_assoc (decimal m) (32 ∷ []) (decimal n)))) (λ m n small small_too. (small, small_too))
  | inr e ↦ elim (cases_Bool (bytes_eq name (codes "range"))) [
    | inl f ↦ pair-line name (codes "range") k v (λ m n. Range m n) r f (rw (e, f) at h) (λ m n. ap (λ rest. codes "range " ++ rest) (sym (append_assoc (decimal m) (32 ∷ []) (decimal n)))) (λ m n small small_too. (small, small_too))
    | inr f ↦ elim (cases_Bool (bytes_eq name (codes "page"))) [
      | inl i ↦ pair-line name (codes "page") k v (λ m n. Page m n) r i (rw (e, f, i) at h) (λ m n. ap (λ rest. codes "page " ++ rest) (sym (append_assoc (decimal m) (32 ∷ []) (decimal n)))) (λ m n small small_too. (small, small_too))
      | inr i ↦ absurd (cc (rw (e, f, i) at h))
    ]
  ]
]

-- If words make a request, joining them with spaces gives the line that writes it.
request_from-some : (ws : List (List ℕ)) (r : Request) → request_from ws ≡ Some r → (join_with_byte 32 ws ≡ line_of r) × FitsRequest r
request_from-some [] r h = absurd (cc h)
request_from-some (name ∷ []) r h = bare_request_from-some name r h
request_from-some (name ∷ k ∷ []) r h = key_request_from-some name k r h
request_from-some (name ∷ k ∷ v ∷ []) r h = pair_request_from-some name k v r h
request_from-some (name ∷ k ∷ v ∷ more ∷ rest) r h = absurd (cc h)

-- A line that is read as a request is the line that writes it.
pub request_of-some : (line : List ℕ) (r : Request) → request_of line ≡ Some r → (line ≡ line_of r) × FitsRequest r
unfolding request_of words
request_of-some line r h =
    let d = request_from-some (words line) r h in
    (sym (join_with_byte-slice_split 32 line) ∙ d.0, d.1)

length_number : (n : ℕ) → n < 2 ^ 64 → length (decimal n) ≤ 20
length_number n small = length-decimal-le 20 n (omega arith) (omega arith) small

length_pair : (m n : ℕ) → m < 2 ^ 64 → n < 2 ^ 64 → length ((decimal m ++ 32 ∷ []) ++ decimal n) ≤ 41
length_pair m n small small_too = omega (arith, length_number m small, length_number n small_too, length-append (decimal m ++ 32 ∷ []) (decimal n), length-append (decimal m) (32 ∷ []))

-- The line that writes a request has at most `LONGEST_LINE` bytes.
length-line_of : (r : Request) → FitsRequest r → length (line_of r) ≤ LONGEST_LINE
length-line_of (Put k v) fits = omega (arith, length_pair k v fits.0 fits.1)
length-line_of (Del k) fits = omega (arith, length_number k fits)
length-line_of (Get k) fits = omega (arith, length_number k fits)
length-line_of Len fits = omega arith
length-line_of AllPairs fits = omega arith
length-line_of First fits = omega arith
length-line_of Last fits = omega arith
length-line_of (At i) fits = omega (arith, length_number i fits)
length-line_of (Rank k) fits = omega (arith, length_number k fits)
length-line_of (Next k) fits = omega (arith, length_number k fits)
length-line_of (Prev k) fits = omega (arith, length_number k fits)
length-line_of Back fits = omega arith
length-line_of Clear fits = omega arith
length-line_of (Range lo hi) fits = omega (arith, length_pair lo hi fits.0 fits.1)
length-line_of (Page p s) fits = omega (arith, length_pair p s fits.0 fits.1)

option_none : (o : Option Request) → ((r : Request) → o ≡ Some r → ⊥) → o ≡ None
option_none None h = refl
option_none (Some r) h = absurd (h r refl)

pub request_of-long : (line : List ℕ) → LONGEST_LINE < length line → request_of line ≡ None
request_of-long line long = option_none (request_of line) (λ r h.
    let d = request_of-some line r h in
    let few = length-line_of r d.1 in
    let same = ap length d.0 in
    omega arith)
