-- The facts about each layout, one line for each.
use Rattle.std.proofs.Common.{◌≡◌, ◌==◌, ℕ, zero, suc, Bool, true, false, List, [], ◌∷◌, Some, None, refl, sym, ap, ◌∙◌, subst}
use Rattle.std.specs.Prelude.{nat_le, if◌then◌else◌, option_map}
use Rattle.std.proofs.lemmas.Bool.{le-leb, and_from}
use Rattle.dmr_bits.specs.Bits.{field_of, IsOctets}
use Rattle.dmr_pdu.specs.declared.pdu.Pdu.{Pdu}
use Rattle.dmr_pdu.specs.declared.pdu.Pdu.TheVariants.{Aloha, Ahoy, Random, Ackd, Acku, Clear, PvGrant, TvGrant, Move, Other}
use Rattle.dmr_pdu.specs.Channels.{IsChannel}
use Rattle.dmr_pdu.specs.Layout.{Row, bit, layout, Holds, HasChannel, IsListed, IsLaidOut, SpellsPdu, Agrees, IsReadable}
use Rattle.dmr_pdu.specs.Reading.{channel, bit_of, read_as}
use Rattle.dmr_pdu.proofs.RowLemmas.{fills, rows_determine}

-- the rows of each layout follow one another from bit 0 to bit 80
pub layout-fills : (pdu : Pdu) → IsListed pdu → fills 0 (layout pdu) ≡ true
unfolding layout IsListed
layout-fills (Aloha sync version offset active mask function nrand_wait register backoff system address) is = refl
layout-fills (Ahoy options group kind called calling) is = refl
layout-fills (Random options flags kind target source) is = refl
layout-fills (Ackd info reason spare target additional) is = refl
layout-fills (Acku info reason spare target additional) is = refl
layout-fills (Clear lpcn group target source) is = refl
layout-fills (PvGrant lpcn slot target source) is = refl
layout-fills (TvGrant lpcn slot late target source) is = refl
layout-fills (Move register backoff lpcn) is = refl
layout-fills (Other octets) is = absurd is

-- the octets of a PDU are determined
pub laid_out_alone : (pdu : Pdu) (a b : List ℕ) → IsOctets 10 a → IsOctets 10 b → IsLaidOut pdu a → IsLaidOut pdu b → a ≡ b
laid_out_alone pdu a b a_octets b_octets a_is b_is =
    rows_determine (layout pdu) a b (layout-fills pdu a_is.listed) a_octets b_octets a_is.rows b_is.rows

bit-read : (o : List ℕ) (first : ℕ) (b : Bool) → field_of o first 1 ≡ bit b → bit_of o first ≡ b
bit-read o first true e = ap (λ n. n == 1) e
bit-read o first false e = ap (λ n. n == 1) e

channel-is : (m n : ℕ) → m ≡ n → IsChannel n → channel m ≡ Some n
channel-is m n e is =
    ap channel e ∙ ap (λ t. if t then Some n else None) (and_from (nat_le 1 n) (nat_le n 4094) (le-leb 1 n is.0) (le-leb n 4094 is.1))

-- row `i` of a layout holds
abbrev RowHolds : List ℕ → List Row → ℕ → Type 0
RowHolds o [] i = Unit {0}
RowHolds o (r ∷ rows) zero = field_of o r.0.first r.0.width ≡ r.1
RowHolds o (r ∷ rows) (suc i) = RowHolds o rows i

row-holds : (o : List ℕ) (rows : List Row) → Holds o rows → (i : ℕ) → RowHolds o rows i
row-holds o [] holds i = tt
row-holds o (r ∷ rows) holds zero = holds.0
row-holds o (r ∷ rows) holds (suc i) = row-holds o rows holds.1 i

-- octets in which the rows of a PDU's layout hold are read as that PDU: one line for each layout, with rows counted
-- from 0
read-rows : (pdu : Pdu) (o : List ℕ) → IsListed pdu → HasChannel pdu → ((i : ℕ) → RowHolds o (layout pdu) i) →
    read_as (field_of o 0 8) o ≡ Some pdu
unfolding layout IsListed HasChannel read_as
read-rows (Aloha sync version offset active mask function nrand_wait register backoff system address) o listed may r =
    ap (λ n. read_as n o) (r 0) ∙ (λ i. Some
    (Aloha (bit-read o 18 sync (r 3) i) (r 4 i) (bit-read o 22 offset (r 5) i) (bit-read o 23 active (r 6) i) (r 7 i) (r 8 i) (r 9 i)
    (bit-read o 35 register (r 10) i) (r 11 i) (r 12 i) (r 13 i)))
read-rows (Ahoy options group kind called calling) o listed may r =
    ap (λ n. read_as n o) (r 0) ∙ (λ i. Some (Ahoy (r 2 i) (bit-read o 25 group (r 4) i) (r 6 i) (r 7 i) (r 8 i)))
read-rows (Random options flags kind target source) o listed may r =
    ap (λ n. read_as n o) (r 0) ∙ (λ i. Some (Random (r 2 i) (r 3 i) (r 4 i) (r 5 i) (r 6 i)))
read-rows (Ackd info reason spare target additional) o listed may r =
    ap (λ n. read_as n o) (r 0) ∙ (λ i. Some (Ackd (r 2 i) (r 3 i) (bit-read o 31 spare (r 4) i) (r 5 i) (r 6 i)))
read-rows (Acku info reason spare target additional) o listed may r =
    ap (λ n. read_as n o) (r 0) ∙ (λ i. Some (Acku (r 2 i) (r 3 i) (bit-read o 31 spare (r 4) i) (r 5 i) (r 6 i)))
read-rows (Clear lpcn group target source) o listed may r =
    ap (λ n. read_as n o) (r 0) ∙ (λ i. option_map (λ l. Clear l (bit-read o 31 group (r 4) i) (r 5 i) (r 6 i))
    (channel-is (field_of o 16 12) lpcn (r 2) may i))
read-rows (PvGrant lpcn slot target source) o listed may r =
    ap (λ n. read_as n o) (r 0) ∙ (λ i. option_map (λ l. PvGrant l (r 3 i) (r 5 i) (r 6 i))
    (channel-is (field_of o 16 12) lpcn (r 2) may i))
read-rows (TvGrant lpcn slot late target source) o listed may r =
    ap (λ n. read_as n o) (r 0) ∙ (λ i. option_map (λ l. TvGrant l (r 3 i) (bit-read o 29 late (r 4) i) (r 6 i) (r 7 i))
    (channel-is (field_of o 16 12) lpcn (r 2) may i))
read-rows (Move register backoff lpcn) o listed may r =
    ap (λ n. read_as n o) (r 0) ∙ (λ i. option_map (λ l. Move (bit-read o 35 register (r 3) i) (r 4 i) l)
    (channel-is (field_of o 44 12) lpcn (r 6) may i))
read-rows (Other octets) o listed may r = absurd listed

-- octets in which a PDU is laid out are read as that PDU
pub laid_out-read : (pdu : Pdu) (o : List ℕ) → IsLaidOut pdu o → read_as (field_of o 0 8) o ≡ Some pdu
laid_out-read pdu o is = read-rows pdu o is.listed is.channel (row-holds o (layout pdu) is.rows)

-- no two PDUs are laid out in the same octets
pub laid_out_same : (p q : Pdu) (o : List ℕ) → IsLaidOut p o → IsLaidOut q o → Some p ≡ Some q
laid_out_same p q o p_is q_is = sym (laid_out-read p o p_is) ∙ laid_out-read q o q_is

-- no two lists of octets spell the same PDU
pub spells_alone : (pdu : Pdu) (a b : List ℕ) → IsOctets 10 a → IsOctets 10 b → SpellsPdu pdu a → SpellsPdu pdu b → a ≡ b
unfolding SpellsPdu
spells_alone (Other octets) a b a_octets b_octets a_is b_is = sym a_is ∙ b_is
spells_alone pdu a b a_octets b_octets a_is b_is = laid_out_alone pdu a b a_octets b_octets a_is b_is

-- ---- agreement

pub laid_out-spells : (pdu : Pdu) (o : List ℕ) → IsListed pdu → SpellsPdu pdu o → IsLaidOut pdu o
unfolding SpellsPdu IsListed
laid_out-spells (Other carried) o listed is = absurd listed
laid_out-spells pdu o listed is = is

pub spells-laid_out : (pdu : Pdu) (o : List ℕ) → IsLaidOut pdu o → SpellsPdu pdu o
unfolding SpellsPdu IsListed
spells-laid_out (Other carried) o is = absurd is.listed
spells-laid_out pdu o is = is

pub agrees-laid_out : (pdu : Pdu) (o : List ℕ) → IsLaidOut pdu o → Agrees pdu o
unfolding Agrees IsListed
agrees-laid_out (Other carried) o is = absurd is.listed
agrees-laid_out pdu o is = is

pub some-same : (p q : Pdu) → Some p ≡ Some q → p ≡ q
some-same p q e = cc

-- if a PDU of the table is laid out in octets, no other agrees with them
pub agrees-same : (p q : Pdu) (o : List ℕ) → IsLaidOut p o → Agrees q o → q ≡ p
unfolding Agrees
agrees-same p (Other carried) o p_is q_is = absurd (q_is.1 p p_is)
agrees-same p q o p_is q_is = some-same q p (laid_out_same q p o q_is p_is)

pub agrees-other : (o : List ℕ) → ((pdu : Pdu) → ¬ IsLaidOut pdu o) → Agrees (Other o) o
unfolding Agrees
agrees-other o none = (refl, none)

pub agrees-other_same : (q : Pdu) (o : List ℕ) → ((pdu : Pdu) → ¬ IsLaidOut pdu o) → Agrees q o → q ≡ Other o
unfolding Agrees
agrees-other_same (Other carried) o none is = ap Other is.0
agrees-other_same q o none is = absurd (none q is)

-- the octets that a readable PDU is written as agree with it
pub spells-agrees : (pdu : Pdu) (octets : List ℕ) → IsReadable pdu → SpellsPdu pdu octets → Agrees pdu octets
unfolding IsReadable SpellsPdu Agrees
spells-agrees (Other carried) octets readable is = (is, λ pdu laid_out. readable pdu (subst (IsLaidOut pdu) (sym is) laid_out))
spells-agrees pdu octets readable is = is
