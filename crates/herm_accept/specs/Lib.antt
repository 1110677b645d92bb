-- What is said of the processes of a program: each accepted, or what each lacks.
pub mod Accepted
pub mod Lacking
pub mod Judged
pub mod Onward
