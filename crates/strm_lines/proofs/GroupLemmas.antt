-- A line's first bytes tell among which commands its own is.
use Rattle.std.proofs.Common.{◌≡◌, List, ℕ, [], ◌∷◌, get_or, refl, arith}
use Rattle.strm_lines.specs.Reading.{Command, behind, read_by, explaining, gathering, hosting, moving, ending, pairing, opening, making, touching, often}

-- with this first byte
abbrev Begin : ℕ → List Command → Type 0
Begin a commands = (line : List ℕ) → get_or line 0 0 ≡ a → read_by often line ≡ read_by commands line

-- and with this second one
abbrev BeginBoth : ℕ → ℕ → List Command → Type 0
BeginBoth a b commands = (line : List ℕ) → get_or line 0 0 ≡ a → get_or line 1 0 ≡ b → read_by often line ≡ read_by commands line

-- and with this third one
abbrev BeginAll : ℕ → ℕ → ℕ → List Command → Type 0
BeginAll a b c commands = (line : List ℕ) → get_or line 0 0 ≡ a → get_or line 1 0 ≡ b → get_or line 2 0 ≡ c → read_by often line ≡ read_by commands line

pub begins_c : Begin 99 ending
unfolding behind often touching making opening pairing ending moving hosting gathering explaining
begins_c [] e = absurd (omega (arith, e))
begins_c (x ∷ line) e = let first : x ≡ 99 = e in rw first refl

pub begins_f : Begin 102 hosting
unfolding behind often touching making opening pairing ending moving hosting gathering explaining
begins_f [] e = absurd (omega (arith, e))
begins_f (x ∷ line) e = let first : x ≡ 102 = e in rw first refl

pub begins_h : Begin 104 hosting
unfolding behind often touching making opening pairing ending moving hosting gathering explaining
begins_h [] e = absurd (omega (arith, e))
begins_h (x ∷ line) e = let first : x ≡ 104 = e in rw first refl

pub begins_g : Begin 103 making
unfolding behind often touching making opening pairing ending moving hosting gathering explaining
begins_g [] e = absurd (omega (arith, e))
begins_g (x ∷ line) e = let first : x ≡ 103 = e in rw first refl

pub begins_n : Begin 110 opening
unfolding behind often touching making opening pairing ending moving hosting gathering explaining
begins_n [] e = absurd (omega (arith, e))
begins_n (x ∷ line) e = let first : x ≡ 110 = e in rw first refl

pub begins_l : Begin 108 moving
unfolding behind often touching making opening pairing ending moving hosting gathering explaining
begins_l [] e = absurd (omega (arith, e))
begins_l (x ∷ line) e = let first : x ≡ 108 = e in rw first refl

pub begins_m : Begin 109 moving
unfolding behind often touching making opening pairing ending moving hosting gathering explaining
begins_m [] e = absurd (omega (arith, e))
begins_m (x ∷ line) e = let first : x ≡ 109 = e in rw first refl

pub begins_s : Begin 115 gathering
unfolding behind often touching making opening pairing ending moving hosting gathering explaining
begins_s [] e = absurd (omega (arith, e))
begins_s (x ∷ line) e = let first : x ≡ 115 = e in rw first refl

pub begins_p : Begin 112 touching
unfolding behind often touching making opening pairing ending moving hosting gathering explaining
begins_p [] e = absurd (omega (arith, e))
begins_p (x ∷ line) e = let first : x ≡ 112 = e in rw first refl

pub begins_d : Begin 100 touching
unfolding behind often touching making opening pairing ending moving hosting gathering explaining
begins_d [] e = absurd (omega (arith, e))
begins_d (x ∷ line) e = let first : x ≡ 100 = e in rw first refl

pub begins_dr : BeginBoth 100 114 ending
unfolding behind often touching making opening pairing ending moving hosting gathering explaining
begins_dr [] e f = absurd (omega (arith, e))
begins_dr (x ∷ []) e f = absurd (omega (arith, f))
begins_dr (x ∷ y ∷ line) e f =
    let first : x ≡ 100 = e in
    let second : y ≡ 114 = f in
    rw (first, second) refl

pub begins_dri : BeginAll 100 114 105 hosting
unfolding behind often touching making opening pairing ending moving hosting gathering explaining
begins_dri [] e f g = absurd (omega (arith, e))
begins_dri (x ∷ []) e f g = absurd (omega (arith, f))
begins_dri (x ∷ y ∷ []) e f g = absurd (omega (arith, g))
begins_dri (x ∷ y ∷ z ∷ line) e f g =
    let first : x ≡ 100 = e in
    let second : y ≡ 114 = f in
    let third : z ≡ 105 = g in
    rw (first, second, third) refl

pub begins_er : BeginBoth 101 114 explaining
unfolding behind often touching making opening pairing ending moving hosting gathering explaining
begins_er [] e f = absurd (omega (arith, e))
begins_er (x ∷ []) e f = absurd (omega (arith, f))
begins_er (x ∷ y ∷ line) e f =
    let first : x ≡ 101 = e in
    let second : y ≡ 114 = f in
    rw (first, second) refl

pub begins_pa : BeginBoth 112 97 pairing
unfolding behind often touching making opening pairing ending moving hosting gathering explaining
begins_pa [] e f = absurd (omega (arith, e))
begins_pa (x ∷ []) e f = absurd (omega (arith, f))
begins_pa (x ∷ y ∷ line) e f =
    let first : x ≡ 112 = e in
    let second : y ≡ 97 = f in
    rw (first, second) refl

pub begins_pi : BeginBoth 112 105 hosting
unfolding behind often touching making opening pairing ending moving hosting gathering explaining
begins_pi [] e f = absurd (omega (arith, e))
begins_pi (x ∷ []) e f = absurd (omega (arith, f))
begins_pi (x ∷ y ∷ line) e f =
    let first : x ≡ 112 = e in
    let second : y ≡ 105 = f in
    rw (first, second) refl
