-- The definitions at whole inputs: what a header is read as, and where the faults stand.
use Rattle.std.proofs.Common.{◌≡◌, ◌-◌, ℕ, List, [], length, Some, None, refl}
use Rattle.std.specs.Prelude.{codes}
use Rattle.sal_io.specs.Told.{line_within}
use Rattle.sal_y4m.specs.declared.fault.Flaw.{Flaw}
use Rattle.sal_y4m.specs.declared.fault.Why.{Why}
use Rattle.sal_y4m.specs.declared.fault.Why.TheVariants.{Magic, Cut, Side, Rate, Interlace, Colour, Param, Missing, Frame}
use Rattle.sal_y4m.specs.declared.head.Head.{Head}
use Rattle.sal_y4m.specs.Parameters.{parameters}
use Rattle.sal_y4m.specs.Grammar.{header_at, header_flaw, picture_at, picture_flaw}

-- where a flaw stands, and what it is
abbrev placed : (List ℕ → Flaw) → List ℕ → ℕ × Why
placed flaw bytes = (length bytes - (flaw bytes).left, (flaw bytes).why)

read : header_at (codes "YUV4MPEG2 W16 H16 F25:1\nFRAME\n") ≡ Some (record { width = 16; height = 16; rate = (25, 1) }, codes "FRAME\n")
unfolding line_within parameters
read = refl

last_counts : header_at (codes "YUV4MPEG2  W1 H2 F0:0 W3 X F1:2 C420 F0:0 \n") ≡ Some (record { width = 3; height = 2; rate = (30, 1) }, [])
unfolding line_within parameters
last_counts = refl

side : placed header_flaw (codes "YUV4MPEG2 W0 H16\n") ≡ (10, Side)
unfolding line_within parameters
side = refl

interlace : placed header_flaw (codes "YUV4MPEG2 W16 H16 It\n") ≡ (18, Interlace)
unfolding line_within parameters
interlace = refl

missing : placed header_flaw (codes "YUV4MPEG2 W16\nFRAME\n") ≡ (13, Missing)
unfolding line_within parameters
missing = refl

first_counts : placed header_flaw (codes "YUV4MPEG2 Q F1 W0\n") ≡ (10, Param)
unfolding line_within parameters
first_counts = refl

rate : placed header_flaw (codes "YUV4MPEG2 W16 H16 F00:0\n") ≡ (18, Rate)
unfolding line_within parameters
rate = refl

colour : placed header_flaw (codes "YUV4MPEG2 W16 H16 C422\n") ≡ (18, Colour)
unfolding line_within parameters
colour = refl

magic : placed header_flaw (codes "YUV4MPEG2W16 H16\n") ≡ (0, Magic)
unfolding line_within parameters
magic = refl

cut_header : placed header_flaw (codes "YUV4MPEG2 W0") ≡ (12, Cut)
unfolding line_within parameters
cut_header = refl

abbrev two_by_two : Head
two_by_two = record { width = 2; height = 2; rate = (30, 1) }

no_picture : picture_at two_by_two (codes "FRAME X\nabcdU") ≡ None
unfolding line_within
no_picture = refl

cut_picture : placed picture_flaw (codes "FRAME X\nabcdU") ≡ (13, Cut)
unfolding line_within
cut_picture = refl

other_line : placed picture_flaw (codes "FRAMES\nabcdUV") ≡ (0, Frame)
unfolding line_within
other_line = refl
