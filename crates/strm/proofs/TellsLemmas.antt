-- What the program answers among its host ends.
use Rattle.std.proofs.Common.{◌≡◌, ◌≢◌, ℕ, List, Option, sym, subst}
use Rattle.strm_buffers.specs.Tells.{Tells}
use Rattle.strm_session.specs.Serving.{IsRunOutput, IsRunStatus}
use Rattle.strm_drawing.specs.Serving.{IsOfDrawing}
use Rattle.strm_program_hosts.specs.HostEnds.{host_ends, writers, readers}
use Rattle.strm.specs.Served.{TellsToDraw, IsServed}

-- what is so of host ends that tell this is so of the program's
among_these : (P : Tells → Type 0) (old : Tells) → old.writers ≡ writers → old.readers ≡ readers → P old → P host_ends
among_these P old e f p =
    subst (λ rs. P (record { writers = writers; readers = rs })) f
    (subst (λ ws. P (record { writers = ws; readers = old.readers })) e p)

-- with each status but 5 and 9 goes a text among these host ends, whose cause is known
abbrev pub ToldAmong : List (List ℕ) → Option (List ℕ) → ℕ → Tells → Tells → ℕ → Type 0
ToldAmong words left before old new status =
    status ≢ 5 → status ≢ 9 → (rest : Option (List ℕ)) × (faults : ℕ) × (text : List ℕ)
    × IsRunOutput words left rest old new before faults status text

-- the same of a picture
abbrev pub DrawnAmong : Option (List ℕ) → ℕ → Tells → Tells → ℕ → Type 0
DrawnAmong left before old new status =
    status ≢ 5 → status ≢ 9 → (rest : Option (List ℕ)) × (faults : ℕ) × (text : List ℕ)
    × IsOfDrawing left rest old new before faults status text

module _ {words : List (List ℕ)} {left : Option (List ℕ)} {before : ℕ} (status code : ℕ) (same : code ≡ status) (old new : Tells) (e : old.writers ≡ writers) (f : old.readers ≡ readers) (known : IsRunStatus status) where
  pub served_so : ¬ TellsToDraw words → ToldAmong words left before old new status → IsServed words left before code
  served_so other told = subst (IsServed words left before) (sym same) (record {
    known = known;
    told = λ _ a b.
        let t = told a b in
        record {
          rest = t.0;
          faults = t.1;
          text = t.2;
          told = new;
          output = among_these (λ tells. IsRunOutput words left t.0 tells new before t.1 status t.2) old e f t.3;
        };
    drawn = λ draw. absurd (other draw);
  })

  pub drawn_so : TellsToDraw words → DrawnAmong left before old new status → IsServed words left before code
  drawn_so draw told = subst (IsServed words left before) (sym same) (record {
    known = known;
    told = λ other. absurd (other draw);
    drawn = λ _ a b.
        let t = told a b in
        record {
          rest = t.0;
          faults = t.1;
          text = t.2;
          told = new;
          output = among_these (λ tells. IsOfDrawing left t.0 tells new before t.1 status t.2) old e f t.3;
        };
  })
