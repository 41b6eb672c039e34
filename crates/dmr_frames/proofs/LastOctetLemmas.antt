-- The last octet of a body, and the word of an RX.
use Rattle.std.proofs.Common.{◌≡◌, ℕ, ◌+◌, ◌<◌, Bool, List, [], ◌∷◌, ◌++◌, set, take, length, arith, ap, ◌∙◌, length-append}
use Rattle.std.proofs.lemmas.List.{take_more_set, take_at}
use Rattle.dmr_bits.specs.Words.{SpellsWord, word_of}
use Rattle.dmr_bits.proofs.Laws.{words-same, word_of-spelled}

-- a word that octets spell is the one that they begin with
pub word_is : (octets : List ℕ) (word : List Bool) → SpellsWord octets word → word ≡ word_of octets
word_is octets word is = words-same octets word (word_of octets) is (word_of-spelled octets is.pad)

-- a body and its last octet, as the code puts them together
pub copied : (front body rest : List ℕ) (x : ℕ) → front ≡ body → 0 < length rest →
    take (length body + 1) (set (front ++ rest) (length body) x) ≡ body ++ x ∷ []
copied front body rest x e lt =
    let len : length front ≡ length body = ap length e in
    take_more_set (front ++ rest) (length body) x (omega (arith, length-append front rest, len, lt))
    ∙ ap (λ (xs : List ℕ). xs ++ x ∷ []) (take_at front rest (length body) len ∙ e)
