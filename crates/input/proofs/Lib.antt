mod Numbers
mod Lining
